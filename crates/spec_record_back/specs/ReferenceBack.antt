-- SOURCE and REFERENCE with the texts under them are read as they were written.
use Rattle.std.specs.Prelude.{ℕ, suc, ◌+◌, ◌-◌, ◌<◌, Bool, ◌||◌, ◌≡◌, List, [], ◌∷◌, ◌++◌, length, eqb}
use Rattle.std.proofs.Math.Bool.{true, false}
use Rattle.std.proofs.Math.Path.{refl}
use Rattle.std.proofs.Common.{◌∙◌, append_assoc, lit<}
use Rattle.std.proofs.lemmas.Bool.{not-true}
use Rattle.spec_format.specs.Bytes.{May, absent, is, bytes, spaces, starts, all, but}
use Rattle.spec_format.specs.Utf8.{utf8}
use Rattle.spec_format.specs.Readers.{Ans, got, no, cut, tag}
use Rattle.spec_format.specs.Header.{field_bytes, field, maybe_field, reference, source}
use Rattle.spec_format.specs.Table.{Source, Reference}
use Rattle.spec_format.specs.Wrap.{wrapped, wrap_text}
use Rattle.spec_format.specs.Write.{padded, field_lines, maybe_lines, reference_lines}
use Rattle.spec_format.specs.WellFormed.{if_is, source_texts, reference_texts}
use Rattle.spec_format.specs.Keeping.{header_kept, pubmed_kept}
use Rattle.spec_texts_back.specs.Tests.{and_left, and_right}
use Rattle.spec_texts_back.proofs.FieldBack.{field_back}

-- ---- what a reader refuses

abbrev pub refused : {A : Type 0} → Ans A → Bool
refused (got a r) = false
refused no = true
refused cut = false

pub is_no : {A : Type 0} (a : Ans A) → refused a ≡ true → a ≡ no
is_no (got a r) h = cc
is_no no h = refl
is_no cut h = cc

-- no indent stands where the first byte is no space
pub no_indent : (n : ℕ) (s : List ℕ) → starts (but 32) s ≡ true → tag (spaces (suc n)) s ≡ no
unfolding tag
no_indent n [] h = cc
no_indent n (b ∷ s) h = cc (not-true (eqb b 32) h)

no_field : (n : ℕ) (word : List ℕ) (keep : Bool) (s : List ℕ) → starts (but 32) s ≡ true → field (suc n) word keep s ≡ no
unfolding field field_bytes
no_field n word keep s h = rw (no_indent n s h)

-- another word stands there
pub other_word : (word : List ℕ) (s : List ℕ) → tag word s ≡ no → field 0 word true s ≡ no
unfolding field field_bytes tag
other_word word s h = rw h

-- ---- what is written begins with its word, so a test that the word decides is decided

regroup₃ : (a b c r : List ℕ) → (a ++ b ++ c) ++ r ≡ a ++ (b ++ (c ++ r))
regroup₃ a b c r = simp append_assoc

-- what stands behind the word
pub after : ℕ → List ℕ → List ℕ → List ℕ → List ℕ
after W word t s = spaces (12 - length word) ++ (wrapped false W 12 (length (padded 12 word)) t ++ s)

pub begins : (W : ℕ) (word t s : List ℕ) → field_lines W word t ++ s ≡ word ++ after W word t s
unfolding field_lines wrap_text after
begins W word t s = regroup₃ word (spaces (12 - length word)) (wrapped false W 12 (length (padded 12 word)) t) s

pub field_test : (q : List ℕ → Bool) (W : ℕ) (word t s : List ℕ) → ((x : List ℕ) → q (word ++ x) ≡ true) → q (field_lines W word t ++ s) ≡ true
field_test q W word t s f = rw (begins W word t s) (f (after W word t s))

may_test :
    (q : List ℕ → Bool) (W : ℕ) (word : List ℕ) (o : May (List ℕ)) (s : List ℕ) → ((x : List ℕ) → q (word ++ x) ≡ true) → q s ≡ true →
    q (maybe_lines W word o ++ s) ≡ true
may_test q W word absent s f h = h
may_test q W word (is t) s f h = field_test q W word t s f

-- no further line of a text stands there; and no text with that word
twelve : List ℕ → Bool
twelve y = refused (tag (spaces 12) y)

no_lem : ℕ → List ℕ → Bool → List ℕ → Bool
no_lem indent word keep y = refused (field indent word keep y)

-- ---- texts that may be absent

maybe_back :
    (W indent : ℕ) (word : List ℕ) (keep : Bool) (o : May (List ℕ)) (s : List ℕ) → indent + length word < 12 → if_is (header_kept W) o ≡ true →
    if_is utf8 o ≡ true → if_is (λ t. keep || all (but 10) t) o ≡ true → twelve s ≡ true → no_lem indent word keep s ≡ true →
    maybe_field indent word keep (maybe_lines W (spaces indent ++ word) o ++ s) ≡ got o s
unfolding twelve no_lem
maybe_back W indent word keep absent s h k u one stops next = rw (is_no (field indent word keep s) next)
maybe_back W indent word keep (is t) s h k u one stops next = rw (field_back W indent word t s keep h k u one (is_no _ stops))

if_true : (o : May (List ℕ)) → if_is (λ t. true || all (but 10) t) o ≡ true
if_true absent = refl
if_true (is t) = refl

-- ---- SOURCE

pub source_back :
    (W : ℕ) (x : Source) (s : List ℕ) → source_texts (header_kept W) x ≡ true → source_texts utf8 x ≡ true → starts (but 32) s ≡ true →
    source (field_lines W (bytes "SOURCE") x.text ++ (maybe_lines W (bytes "  ORGANISM") x.organism ++ s)) ≡ got x s
unfolding source twelve no_lem tag
source_back W x s k u fine =
    let p = header_kept W in
    let stops : twelve s ≡ true = rw (no_indent 11 s fine) in
    let y : List ℕ = maybe_lines W (bytes "  ORGANISM") x.organism ++ s in
    rw (
      field_back W 0 (bytes "SOURCE") x.text y true (lit< tt) (and_left (p x.text) _ k) (and_left (utf8 x.text) _ u) refl
          (is_no (tag (spaces 12) y) (may_test twelve W (bytes "  ORGANISM") x.organism s (λ x. refl) stops)),
      maybe_back W 2 (bytes "ORGANISM") true x.organism s (lit< tt) (and_right (p x.text) _ k) (and_right (utf8 x.text) _ u)
          (if_true x.organism) stops (rw (no_field 1 (bytes "ORGANISM") true s fine)),
    )

-- ---- REFERENCE

regroup₇ : (a b c d e f g r : List ℕ) → (a ++ b ++ c ++ d ++ e ++ f ++ g) ++ r ≡ a ++ (b ++ (c ++ (d ++ (e ++ (f ++ (g ++ r))))))
regroup₇ a b c d e f g r = simp append_assoc

reference_steps :
    (x : Reference) (s s₁ s₂ s₃ s₄ s₅ s₆ s₇ : List ℕ) → field 0 (bytes "REFERENCE") true s ≡ got x.text s₁ →
    maybe_field 2 (bytes "AUTHORS") true s₁ ≡ got x.authors s₂ → maybe_field 2 (bytes "CONSRTM") true s₂ ≡ got x.consrtm s₃ →
    field 2 (bytes "TITLE") true s₃ ≡ got x.title s₄ → maybe_field 2 (bytes "JOURNAL") true s₄ ≡ got x.journal s₅ →
    maybe_field 3 (bytes "PUBMED") false s₅ ≡ got x.pubmed s₆ → maybe_field 2 (bytes "REMARK") true s₆ ≡ got x.remark s₇ →
    reference s ≡ got x s₇
unfolding reference
reference_steps x s s₁ s₂ s₃ s₄ s₅ s₆ s₇ e₁ e₂ e₃ e₄ e₅ e₆ e₇ = rw (e₁, e₂, e₃, e₄, e₅, e₆, e₇)

-- each text of a reference passes p
record Texts (p : List ℕ → Bool) (x : Reference) : Type 0 where
  text : p x.text ≡ true
  authors : if_is p x.authors ≡ true
  consrtm : if_is p x.consrtm ≡ true
  title : p x.title ≡ true
  journal : if_is p x.journal ≡ true
  pubmed : if_is p x.pubmed ≡ true
  remark : if_is p x.remark ≡ true

texts : (p : List ℕ → Bool) (x : Reference) → reference_texts p x ≡ true → Texts p x
unfolding reference_texts
texts p x h =
    let h₁ = and_right (p x.text) _ h in
    let h₂ = and_right (if_is p x.authors) _ h₁ in
    let h₃ = and_right (if_is p x.consrtm) _ h₂ in
    let h₄ = and_right (p x.title) _ h₃ in
    let h₅ = and_right (if_is p x.journal) _ h₄ in
    record {
      text = and_left (p x.text) _ h;
      authors = and_left (if_is p x.authors) _ h₁;
      consrtm = and_left (if_is p x.consrtm) _ h₂;
      title = and_left (p x.title) _ h₃;
      journal = and_left (if_is p x.journal) _ h₄;
      pubmed = and_left (if_is p x.pubmed) _ h₅;
      remark = and_right (if_is p x.pubmed) _ h₅;
    }

module _ (W : ℕ) (x : Reference) (s : List ℕ) where
  s₆ : List ℕ
  s₆ = maybe_lines W (bytes "  REMARK") x.remark ++ s

  s₅ : List ℕ
  s₅ = maybe_lines W (bytes "   PUBMED") x.pubmed ++ s₆

  s₄ : List ℕ
  s₄ = maybe_lines W (bytes "  JOURNAL") x.journal ++ s₅

  s₃ : List ℕ
  s₃ = field_lines W (bytes "  TITLE") x.title ++ s₄

  s₂ : List ℕ
  s₂ = maybe_lines W (bytes "  CONSRTM") x.consrtm ++ s₃

  s₁ : List ℕ
  s₁ = maybe_lines W (bytes "  AUTHORS") x.authors ++ s₂

  -- from each text's end on, a test that the words which can stand there pass
  from₆ : (q : List ℕ → Bool) → ((y : List ℕ) → q (bytes "  REMARK" ++ y) ≡ true) → q s ≡ true → q s₆ ≡ true
  unfolding s₆
  from₆ q r h = may_test q W (bytes "  REMARK") x.remark s r h

  from₅ : (q : List ℕ → Bool) → ((y : List ℕ) → q (bytes "   PUBMED" ++ y) ≡ true) → ((y : List ℕ) → q (bytes "  REMARK" ++ y) ≡ true) → q s ≡ true → q s₅ ≡ true
  unfolding s₅
  from₅ q p r h = may_test q W (bytes "   PUBMED") x.pubmed s₆ p (from₆ q r h)

  from₄ :
      (q : List ℕ → Bool) → ((y : List ℕ) → q (bytes "  JOURNAL" ++ y) ≡ true) → ((y : List ℕ) → q (bytes "   PUBMED" ++ y) ≡ true) →
      ((y : List ℕ) → q (bytes "  REMARK" ++ y) ≡ true) → q s ≡ true → q s₄ ≡ true
  unfolding s₄
  from₄ q j p r h = may_test q W (bytes "  JOURNAL") x.journal s₅ j (from₅ q p r h)

  from₃ : (q : List ℕ → Bool) → ((y : List ℕ) → q (bytes "  TITLE" ++ y) ≡ true) → q s₃ ≡ true
  unfolding s₃
  from₃ q t = field_test q W (bytes "  TITLE") x.title s₄ t

  from₂ : (q : List ℕ → Bool) → ((y : List ℕ) → q (bytes "  CONSRTM" ++ y) ≡ true) → ((y : List ℕ) → q (bytes "  TITLE" ++ y) ≡ true) → q s₂ ≡ true
  unfolding s₂
  from₂ q c t = may_test q W (bytes "  CONSRTM") x.consrtm s₃ c (from₃ q t)

  from₁ :
      (q : List ℕ → Bool) → ((y : List ℕ) → q (bytes "  AUTHORS" ++ y) ≡ true) → ((y : List ℕ) → q (bytes "  CONSRTM" ++ y) ≡ true) →
      ((y : List ℕ) → q (bytes "  TITLE" ++ y) ≡ true) → q s₁ ≡ true
  unfolding s₁
  from₁ q a c t = may_test q W (bytes "  AUTHORS") x.authors s₂ a (from₂ q c t)

  lines₁ : reference_lines W x ++ s ≡ field_lines W (bytes "REFERENCE") x.text ++ s₁
  unfolding reference_lines s₁ s₂ s₃ s₄ s₅ s₆
  lines₁ =
      regroup₇ (field_lines W (bytes "REFERENCE") x.text) (maybe_lines W (bytes "  AUTHORS") x.authors)
      (maybe_lines W (bytes "  CONSRTM") x.consrtm) (field_lines W (bytes "  TITLE") x.title) (maybe_lines W (bytes "  JOURNAL") x.journal)
      (maybe_lines W (bytes "   PUBMED") x.pubmed) (maybe_lines W (bytes "  REMARK") x.remark) s

module _ (W : ℕ) (x : Reference) (s : List ℕ) (k : Texts (header_kept W) x) (u : Texts utf8 x) (one : pubmed_kept x ≡ true) (fine : starts (but 32) s ≡ true) where
  twelve_s : twelve s ≡ true
  unfolding twelve
  twelve_s = rw (no_indent 11 s fine)

  no_s : (n : ℕ) (word : List ℕ) (keep : Bool) → no_lem (suc n) word keep s ≡ true
  unfolding no_lem
  no_s n word keep = rw (no_field n word keep s fine)

  text₁ : field 0 (bytes "REFERENCE") true (field_lines W (bytes "REFERENCE") x.text ++ (s₁ W x s)) ≡ got x.text (s₁ W x s)
  unfolding twelve tag
  text₁ =
      field_back W 0 (bytes "REFERENCE") x.text (s₁ W x s) true (lit< tt) k.text u.text refl
      (is_no (tag (spaces 12) (s₁ W x s)) (from₁ W x s twelve (λ y. refl) (λ y. refl) (λ y. refl)))

  authors₁ : maybe_field 2 (bytes "AUTHORS") true (s₁ W x s) ≡ got x.authors (s₂ W x s)
  unfolding s₁ twelve no_lem field field_bytes tag
  authors₁ =
      maybe_back W 2 (bytes "AUTHORS") true x.authors (s₂ W x s) (lit< tt) k.authors u.authors (if_true x.authors)
      (from₂ W x s twelve (λ y. refl) (λ y. refl)) (from₂ W x s (no_lem 2 (bytes "AUTHORS") true) (λ y. refl) (λ y. refl))

  consrtm₁ : maybe_field 2 (bytes "CONSRTM") true (s₂ W x s) ≡ got x.consrtm (s₃ W x s)
  unfolding s₂ twelve no_lem field field_bytes tag
  consrtm₁ =
      maybe_back W 2 (bytes "CONSRTM") true x.consrtm (s₃ W x s) (lit< tt) k.consrtm u.consrtm (if_true x.consrtm) (from₃ W x s twelve (λ y. refl))
      (from₃ W x s (no_lem 2 (bytes "CONSRTM") true) (λ y. refl))

  title₁ : field 2 (bytes "TITLE") true (s₃ W x s) ≡ got x.title (s₄ W x s)
  unfolding s₃ twelve tag
  title₁ =
      field_back W 2 (bytes "TITLE") x.title (s₄ W x s) true (lit< tt) k.title u.title refl
      (is_no (tag (spaces 12) (s₄ W x s)) (from₄ W x s twelve (λ y. refl) (λ y. refl) (λ y. refl) twelve_s))

  journal₁ : maybe_field 2 (bytes "JOURNAL") true (s₄ W x s) ≡ got x.journal (s₅ W x s)
  unfolding s₄ twelve no_lem field field_bytes tag
  journal₁ =
      maybe_back W 2 (bytes "JOURNAL") true x.journal (s₅ W x s) (lit< tt) k.journal u.journal (if_true x.journal)
      (from₅ W x s twelve (λ y. refl) (λ y. refl) twelve_s) (from₅ W x s (no_lem 2 (bytes "JOURNAL") true) (λ y. refl) (λ y. refl) (no_s 1 (bytes "JOURNAL") true))

  pubmed₁ : maybe_field 3 (bytes "PUBMED") false (s₅ W x s) ≡ got x.pubmed (s₆ W x s)
  unfolding s₅ twelve no_lem field field_bytes tag
  pubmed₁ =
      maybe_back W 3 (bytes "PUBMED") false x.pubmed (s₆ W x s) (lit< tt) k.pubmed u.pubmed one (from₆ W x s twelve (λ y. refl) twelve_s)
      (from₆ W x s (no_lem 3 (bytes "PUBMED") false) (λ y. refl) (no_s 2 (bytes "PUBMED") false))

  remark₁ : maybe_field 2 (bytes "REMARK") true (s₆ W x s) ≡ got x.remark s
  unfolding s₆
  remark₁ =
      maybe_back W 2 (bytes "REMARK") true x.remark s (lit< tt) k.remark u.remark (if_true x.remark) twelve_s (no_s 1 (bytes "REMARK") true)

  whole₁ : reference (reference_lines W x ++ s) ≡ got x s
  whole₁ =
      rw (lines₁ W x s)
      (reference_steps x (field_lines W (bytes "REFERENCE") x.text ++ (s₁ W x s)) (s₁ W x s) (s₂ W x s) (s₃ W x s) (s₄ W x s) (s₅ W x s) (s₆ W x s) s
      text₁ authors₁ consrtm₁ title₁ journal₁ pubmed₁ remark₁)

pub reference_back :
    (W : ℕ) (x : Reference) (s : List ℕ) → reference_texts (header_kept W) x ≡ true → reference_texts utf8 x ≡ true → pubmed_kept x ≡ true →
    starts (but 32) s ≡ true → reference (reference_lines W x ++ s) ≡ got x s
reference_back W x s k u one fine = whole₁ W x s (texts (header_kept W) x k) (texts utf8 x u) one fine

-- what stands behind the word REFERENCE
pub after_reference : ℕ → Reference → List ℕ → List ℕ
after_reference W x s = after W (bytes "REFERENCE") x.text (s₁ W x s)

pub begins_reference : (W : ℕ) (x : Reference) (s : List ℕ) → reference_lines W x ++ s ≡ bytes "REFERENCE" ++ after_reference W x s
unfolding after_reference
begins_reference W x s = lines₁ W x s ∙ begins W (bytes "REFERENCE") x.text (s₁ W x s)
