-- The LOCUS line: its values, parted by any gaps, are read; and so what is written of a table that keeps the rules is read as the same values.
use Rattle.std.specs.Prelude.{ℕ, zero, suc, ◌+◌, ◌-◌, ◌≤◌, Bool, true, false, ◌&&◌, ◌||◌, ◌≡◌, refl, List, [], ◌∷◌, ◌++◌, length, eqb, leb, Option, Some, None}
use Rattle.std.proofs.Common.{arith, ap, ◌∙◌, append_assoc, append-nil, le-leb, leb-true, ne_eqb}
use Rattle.std.proofs.lemmas.Bool.{eqb-false, not-true}
use Rattle.spec_format.specs.Bytes.{May, absent, is, bytes, spaces, some, starts, all, same, visible, printing, digit, blank, not_blank, but, number, decimal}
use Rattle.spec_format.specs.Readers.{got, tag, until1, end, end_up_to}
use Rattle.spec_format.specs.Dates.{is_date, date_text}
use Rattle.spec_format.specs.Table.{Locus, Table}
use Rattle.spec_format.specs.Locus.{preamble, tokens, date_token, locus_from, locus_of, locus_line, locus}
use Rattle.spec_format.specs.Write.{name_or, length_text, printed_name, molecule_text, topology_text, locus_text}
use Rattle.spec_format.specs.WellFormed.{if_is, date_fine, locus_fine}
use Rattle.spec_format.specs.Keeping.{spaceless, present, locus_kept}
use Rattle.spec_format.specs.declared.Date.{Date}
use Rattle.spec_texts_back.specs.Tests.{and_left, and_right, all_head, all_tail, all_append, all_imp, all_and, all_first, starts_more}
use Rattle.spec_texts_back.specs.Pieces.{until_back, all_spaces, no_end, line_back, visible_no_end}
use Rattle.spec_location.specs.Decimals.{decimal_back}
use Rattle.spec_record_back.specs.Decimals.{all_digits, some_digits, length_digits, DateBack, date_back}

-- nothing is skipped before the word
pub preamble_back : (x : List ℕ) → preamble (bytes "LOCUS" ++ x) ≡ got tt (bytes "LOCUS" ++ x)
unfolding preamble end end_up_to tag
preamble_back x = refl

-- ---- the line's bytes and tokens

visible_not_blank : (b : ℕ) → visible b ≡ true → not_blank b ≡ true
visible_not_blank b h =
    let l : 33 ≤ b = leb-true 33 b (and_left (leb 33 b) _ h) in
    cc (ne_eqb b 32 (λ e. omega arith), ne_eqb b 9 (λ e. omega arith))

pub digit_visible : (b : ℕ) → digit b ≡ true → visible b ≡ true
digit_visible b h =
    let l : 48 ≤ b = leb-true 48 b (and_left (leb 48 b) _ h) in
    let u : b ≤ 57 = leb-true b 57 (and_right (leb 48 b) _ h) in
    cc (le-leb 33 b (omega arith), le-leb b 126 (omega arith))

spaceless_visible : (b : ℕ) → printing b ≡ true → but 32 b ≡ true → visible b ≡ true
spaceless_visible b h k =
    let l : 32 ≤ b = leb-true 32 b (and_left (leb 32 b) _ h) in
    let n : b ≡ 32 → ⊥ = eqb-false b 32 (not-true (eqb b 32) k) in
    cc (le-leb 33 b (omega arith), and_right (leb 32 b) _ h)

tokens_word : (w x : List ℕ) → some w ≡ true → all not_blank w ≡ true → starts not_blank x ≡ false → tokens (w ++ x) ≡ w ∷ tokens x
unfolding tokens
tokens_word [] x s h e = cc
tokens_word (b ∷ []) x s h e = cc (not-true (blank b) (all_head not_blank b [] h))
tokens_word (b ∷ c ∷ w) x s h e =
    cc (
      not-true (blank b) (all_head not_blank b (c ∷ w) h),
      all_head not_blank c w (all_tail not_blank b (c ∷ w) h),
      tokens_word (c ∷ w) x refl (all_tail not_blank b (c ∷ w) h) e,
    )

tokens_skip : (n : ℕ) (x : List ℕ) → tokens (spaces n ++ x) ≡ tokens x
unfolding tokens
tokens_skip zero x = refl
tokens_skip (suc n) x = tokens_skip n x

tokens_space : (x : List ℕ) → tokens (32 ∷ x) ≡ tokens x
unfolding tokens
tokens_space x = refl

gap_blank : (n : ℕ) (x : List ℕ) → starts not_blank (spaces n ++ 32 ∷ x) ≡ false
gap_blank zero x = refl
gap_blank (suc n) x = refl

-- a word and a gap
token : (w : List ℕ) (n : ℕ) (x : List ℕ) → some w ≡ true → all visible w ≡ true → tokens (w ++ (spaces n ++ 32 ∷ x)) ≡ w ∷ tokens x
token w n x s h =
    cc
    (tokens_word w (spaces n ++ 32 ∷ x) s (all_imp visible not_blank visible_not_blank w h) (gap_blank n x), tokens_skip n (32 ∷ x), tokens_space x)

token_after : (w : List ℕ) (n : ℕ) (x : List ℕ) → some w ≡ true → all visible w ≡ true → tokens (w ++ (spaces (suc n) ++ x)) ≡ w ∷ tokens x
token_after w n x s h = cc (tokens_word w (spaces (suc n) ++ x) s (all_imp visible not_blank visible_not_blank w h) refl, tokens_skip (suc n) x)

last_token : (w : List ℕ) → some w ≡ true → all visible w ≡ true → tokens w ≡ w ∷ []
unfolding tokens
last_token w s h = cc (tokens_word w [] s (all_imp visible not_blank visible_not_blank w h) refl, append-nil w)

-- the molecule type's tokens: one or none
abbrev may_token : May (List ℕ) → List (List ℕ)
may_token absent = []
may_token (is m) = m ∷ []

abbrev pub token_fine : May (List ℕ) → Bool
token_fine absent = true
token_fine (is m) = some m && all visible m

molecule_token :
    (m : May (List ℕ)) (n : ℕ) (x : List ℕ) → token_fine m ≡ true →
    tokens (molecule_text false m ++ (spaces n ++ 32 ∷ x)) ≡ may_token m ++ tokens x
molecule_token absent n x h = cc (tokens_skip n (32 ∷ x), tokens_space x)
molecule_token (is m) n x h = token m n x (and_left (some m) _ h) (and_right (some m) _ h)

topology_some : (c : Bool) → some (topology_text c) ≡ true
topology_some true = refl
topology_some false = refl

topology_visible : (c : Bool) → all visible (topology_text c) ≡ true
topology_visible true = refl
topology_visible false = refl

topology_fine : (c : Bool) → (same (topology_text c) (bytes "linear") || same (topology_text c) (bytes "circular")) ≡ true
topology_fine true = refl
topology_fine false = refl

topology_is : (c : Bool) → same (topology_text c) (bytes "circular") ≡ c
topology_is true = refl
topology_is false = refl

-- the gaps after these, each of one space more
pub record Gaps : Type 0 where
  pub name : ℕ
  pub unit : ℕ
  pub molecule : ℕ
  pub topology : ℕ
  pub division : ℕ

-- the line after its word and gap, without its end
unfoldable pub line_text : Gaps → List ℕ → List ℕ → May (List ℕ) → Bool → List ℕ → List ℕ → List ℕ
line_text g name count m c division date =
    name ++
    (spaces (suc g.name) ++
    (count ++
    32 ∷ (bytes "bp" ++
    (spaces g.unit ++
    32 ∷ (molecule_text false m ++
    (spaces g.molecule ++
    32 ∷ (topology_text c ++
    (spaces g.topology ++
    32 ∷ (division ++ (spaces g.division ++ 32 ∷ date))))))))))

-- each value is one token
pub record Parts (name count division date : List ℕ) (m : May (List ℕ)) : Type 0 where
  pub name₁ : some name ≡ true
  pub name₂ : all visible name ≡ true
  pub count₁ : some count ≡ true
  pub count₂ : all visible count ≡ true
  pub molecule : token_fine m ≡ true
  pub division₁ : some division ≡ true
  pub division₂ : all visible division ≡ true
  pub date₁ : some date ≡ true
  pub date₂ : all visible date ≡ true

line_tokens :
    (g : Gaps) (name count division date : List ℕ) (m : May (List ℕ)) (c : Bool) → Parts name count division date m →
    tokens (line_text g name count m c division date) ≡
    name ∷ count ∷ bytes "bp" ∷ (may_token m ++ (topology_text c ∷ division ∷ date ∷ []))
unfolding line_text
line_tokens g name count division date m c p =
    let x₅ : List ℕ = division ++ (spaces g.division ++ 32 ∷ date) in
    let x₄ : List ℕ = topology_text c ++ (spaces g.topology ++ 32 ∷ x₅) in
    let x₃ : List ℕ = molecule_text false m ++ (spaces g.molecule ++ 32 ∷ x₄) in
    let x₂ : List ℕ = bytes "bp" ++ (spaces g.unit ++ 32 ∷ x₃) in
    let x₁ : List ℕ = count ++ 32 ∷ x₂ in
    let t₅ : tokens x₅ ≡ division ∷ date ∷ [] =
    cc (token division g.division date p.division₁ p.division₂, last_token date p.date₁ p.date₂) in
    let t₄ : tokens x₄ ≡ topology_text c ∷ division ∷ date ∷ [] = token (topology_text c) g.topology x₅ (topology_some c) (topology_visible c) ∙ cc in
    let t₃ : tokens x₃ ≡ may_token m ++ (topology_text c ∷ division ∷ date ∷ []) = molecule_token m g.molecule x₄ p.molecule ∙ cc in
    let t₂ : tokens x₂ ≡ bytes "bp" ∷ (may_token m ++ (topology_text c ∷ division ∷ date ∷ [])) = token (bytes "bp") g.unit x₃ refl refl ∙ cc in
    let t₁ : tokens x₁ ≡ count ∷ bytes "bp" ∷ (may_token m ++ (topology_text c ∷ division ∷ date ∷ [])) = token count 0 x₂ p.count₁ p.count₂ ∙ cc in
    token_after name g.name x₁ p.name₁ p.name₂ ∙ cc

-- ---- from the tokens to the values

-- digits of a number that a LOCUS line takes
pub record Count (count : List ℕ) : Type 0 where
  pub digits : all digit count ≡ true
  pub ten : leb (length count) 10 ≡ true
  pub fits : leb (number 0 count) 4294967295 ≡ true

from_back :
    (name count division date : List ℕ) (m : May (List ℕ)) (c : Bool) (d : Date) → all (but 58) name ≡ true → Count count →
    date_token date ≡ Some d →
    locus_from name count (bytes "bp") m (topology_text c) division date ≡
    record { name = is name; length = is (number 0 count); molecule = m; circular = c; division = division; date = Some d }
unfolding locus_from
from_back name count division date m c d h k e = cc (k.digits, k.ten, k.fits, topology_fine c, topology_is c)

of_back :
    (name count division date : List ℕ) (m : May (List ℕ)) (c : Bool) →
    locus_of (name ∷ count ∷ bytes "bp" ∷ (may_token m ++ (topology_text c ∷ division ∷ date ∷ []))) ≡
    locus_from name count (bytes "bp") m (topology_text c) division date
unfolding locus_of
of_back name count division date absent c = refl
of_back name count division date (is m) c = refl

all_visible :
    (name count division date : List ℕ) (m : May (List ℕ)) (c : Bool) → Parts name count division date m →
    all (all visible) (name ∷ count ∷ bytes "bp" ∷ (may_token m ++ (topology_text c ∷ division ∷ date ∷ []))) ≡ true
all_visible name count division date absent c p =
    cc (p.name₂, p.count₂, topology_visible c, p.division₂, p.date₂)
all_visible name count division date (is m) c p =
    cc (p.name₂, p.count₂, and_right (some m) (all visible m) p.molecule, topology_visible c, p.division₂, p.date₂)

line_values :
    (g : Gaps) (name count division date : List ℕ) (m : May (List ℕ)) (c : Bool) (on : Date) → Parts name count division date m →
    all (but 58) name ≡ true → Count count → date_token date ≡ Some on →
    locus_line (line_text g name count m c division date) ≡
    record { name = is name; length = is (number 0 count); molecule = m; circular = c; division = division; date = Some on }
unfolding locus_line
line_values g name count division date m c on p h k t =
    rw (line_tokens g name count division date m c p, all_visible name count division date m c p, of_back name count division date m c)
    (from_back name count division date m c on h k t)

-- ---- the line's end

token_no_end : (m : May (List ℕ)) → token_fine m ≡ true → all no_end (molecule_text false m) ≡ true
token_no_end absent h = refl
token_no_end (is m) h = all_imp visible no_end visible_no_end m (and_right (some m) _ h)

text_no_end :
    (g : Gaps) (name count division date : List ℕ) (m : May (List ℕ)) (c : Bool) → Parts name count division date m →
    all no_end (line_text g name count m c division date) ≡ true
unfolding line_text
text_no_end g name count division date m c p =
    let fine : (w : List ℕ) → all visible w ≡ true → all no_end w ≡ true = all_imp visible no_end visible_no_end in
    let gap : (n : ℕ) → all no_end (spaces n) ≡ true = all_spaces no_end refl in
    all_append no_end name _ (fine name p.name₂)
    (all_append no_end (spaces (suc g.name)) _ (gap (suc g.name))
    (all_append no_end count _ (fine count p.count₂)
    (all_append no_end (spaces g.unit) _ (gap g.unit)
    (all_append no_end (molecule_text false m) _ (token_no_end m p.molecule)
    (all_append no_end (spaces g.molecule) _ (gap g.molecule)
    (all_append no_end (topology_text c) _ (fine (topology_text c) (topology_visible c))
    (all_append no_end (spaces g.topology) _ (gap g.topology)
    (all_append no_end division _ (fine division p.division₂)
    (all_append no_end (spaces g.division) (32 ∷ date) (gap g.division) (fine date p.date₂))))))))))

text_starts :
    (g : Gaps) (name count division date : List ℕ) (m : May (List ℕ)) (c : Bool) → Parts name count division date m →
    starts not_blank (line_text g name count m c division date) ≡ true
unfolding line_text
text_starts g name count division date m c p =
    starts_more not_blank name _ (all_first not_blank name p.name₁ (all_imp visible not_blank visible_not_blank name p.name₂))

locus_steps :
    (x rest : List ℕ) → starts not_blank x ≡ true → all no_end x ≡ true → locus (bytes "LOCUS       " ++ (x ++ 10 ∷ rest)) ≡ got (locus_line x) rest
unfolding locus tag
locus_steps x rest h k =
    let e : until1 not_blank (spaces 7 ++ (x ++ 10 ∷ rest)) ≡ got (spaces 7) (x ++ 10 ∷ rest)
    = cc (until_back not_blank (spaces 7) (x ++ 10 ∷ rest) refl (starts_more not_blank x (10 ∷ rest) h)) in
    rw (e, line_back x rest k)

-- A LINE OF SUCH VALUES, whatever its gaps, is read as the values
pub values_back :
    (g : Gaps) (name count division date : List ℕ) (m : May (List ℕ)) (c : Bool) (on : Date) (rest : List ℕ) →
    Parts name count division date m → all (but 58) name ≡ true → Count count → date_token date ≡ Some on →
    locus (bytes "LOCUS       " ++ (line_text g name count m c division date ++ 10 ∷ rest)) ≡
    got (record { name = is name; length = is (number 0 count); molecule = m; circular = c; division = division; date = Some on }) rest
values_back g name count division date m c on rest p h k e =
    locus_steps (line_text g name count m c division date) rest (text_starts g name count division date m c p) (text_no_end g name count division date m c p) ∙
    ap (λ (l : Locus). got l rest) (line_values g name count division date m c on p h k e)

-- ---- the table's line

-- its gaps
gaps : List ℕ → List ℕ → List ℕ → List ℕ → Gaps
gaps name count molecule topology =
    record {
      name = 27 - (length name + length count);
      unit = 3;
      molecule = 7 - length molecule;
      topology = 8 - length topology;
      division = 0;
    }

decimal_count : (n : ℕ) → n ≤ 4294967295 → Count (decimal n)
decimal_count n h =
    record {
      digits = all_digits 10 n;
      ten = le-leb (length (decimal n)) 10 (length_digits 10 n);
      fits = rw (decimal_back n h) (le-leb n 4294967295 h);
    }

regroup :
    (l n g c b m d s t e division date f rest : List ℕ) →
    (l ++ (n ++ g ++ c) ++ b ++ (m ++ d) ++ s ++ (t ++ e) ++ s ++ division ++ s ++ date ++ f) ++ rest ≡
    l ++ ((n ++ (g ++ (c ++ (b ++ (m ++ (d ++ (s ++ (t ++ (e ++ (s ++ (division ++ (s ++ date)))))))))))) ++ (f ++ rest))
regroup l n g c b m d s t e division date f rest = simp append_assoc

-- the line that is written, of the values that it has
text_is :
    (t : Table) (name : List ℕ) (n : ℕ) (on : Date) (rest : List ℕ) → t.locus.name ≡ is name → t.locus.length ≡ is n →
    t.locus.date ≡ Some on →
    locus_text false false t ++ rest ≡
    bytes "LOCUS       " ++
    (line_text (gaps name (decimal n) (molecule_text false t.locus.molecule) (topology_text t.locus.circular)) name (decimal n) t.locus.molecule
    t.locus.circular t.locus.division (date_text on) ++
    10 ∷ rest)
unfolding locus_text printed_name length_text line_text gaps
text_is t name n on rest p q r =
    rw (p, q, r)
    (regroup (bytes "LOCUS       ") name (spaces (suc (27 - (length name + length (decimal n))))) (decimal n) (bytes " bp    ")
    (molecule_text false t.locus.molecule) (spaces (7 - length (molecule_text false t.locus.molecule))) (bytes " ")
    (topology_text t.locus.circular) (spaces (8 - length (topology_text t.locus.circular))) t.locus.division (date_text on) (bytes "\n") rest)

-- the length is one that a LOCUS line can give; a table that was read, or whose length is of 32 bits, has no other
abbrev pub length_fits : Table → Bool
length_fits t = if_is (λ n. leb n 4294967295) t.locus.length

spaceless_all : (w : List ℕ) → all printing w ≡ true → spaceless w ≡ true → all visible w ≡ true
spaceless_all w h k = all_and printing (but 32) visible spaceless_visible w h (and_right (some w) _ k)

molecule_fine : (m : May (List ℕ)) → if_is (all printing) m ≡ true → if_is spaceless m ≡ true → token_fine m ≡ true
molecule_fine absent h k = refl
molecule_fine (is m) h k = cc (and_left (some m) _ k, spaceless_all m h k)

pub date_some : (d : Date) → some (date_text d) ≡ true
unfolding date_text
date_some d = refl

values_are :
    (l : Locus) (name : List ℕ) (n : ℕ) (on : Date) → l.name ≡ is name → l.length ≡ is n → l.date ≡ Some on →
    ◌≡◌ {A = Locus}
    (record { name = is name; length = is n; molecule = l.molecule; circular = l.circular; division = l.division; date = Some on }) l
values_are l name n on p q r = rw (← p, ← q, ← r)

line_kept :
    (t : Table) (name : List ℕ) (n : ℕ) (on : Date) (rest : List ℕ) → t.locus.name ≡ is name → t.locus.length ≡ is n →
    t.locus.date ≡ Some on → Parts name (decimal n) t.locus.division (date_text on) t.locus.molecule → all (but 58) name ≡ true →
    n ≤ 4294967295 → date_token (date_text on) ≡ Some on → locus (locus_text false false t ++ rest) ≡ got t.locus rest
line_kept t name n on rest p q r parts h k e =
    let g : Gaps = gaps name (decimal n) (molecule_text false t.locus.molecule) (topology_text t.locus.circular) in
    let v =
    values_back g name (decimal n) t.locus.division (date_text on) t.locus.molecule t.locus.circular on rest parts h (decimal_count n k) e in
    let w = values_are t.locus name n on p q r in
    rw (text_is t name n on rest p q r) (rw (decimal_back n k) at v ∙ ap (λ (l : Locus). got l rest) w)

-- what the rules say, one by one
record Facts (l : Locus) (printed : List ℕ) : Type 0 where
  name : present l.name ≡ true
  length : present l.length ≡ true
  date : is_date l.date ≡ true
  colonless : if_is (all (but 58)) l.name ≡ true
  name_spaceless : if_is spaceless l.name ≡ true
  division_spaceless : spaceless l.division ≡ true
  molecule_spaceless : if_is spaceless l.molecule ≡ true
  name_printing : all printing printed ≡ true
  division_printing : all printing l.division ≡ true
  molecule_printing : if_is (all printing) l.molecule ≡ true
  date_range : date_fine l.date ≡ true

facts : (t : Table) → locus_fine false false t ≡ true → locus_kept t.locus ≡ true → Facts t.locus (name_or t.locus.name t.accession)
unfolding locus_fine locus_kept printed_name
facts t fine kept =
    let l : Locus = t.locus in
    let k₁ = and_right (present l.name) _ kept in
    let k₂ = and_right (present l.length) _ k₁ in
    let k₃ = and_right (is_date l.date) _ k₂ in
    let k₄ = and_right (if_is (all (but 58)) l.name) _ k₃ in
    let k₅ = and_right (if_is spaceless l.name) _ k₄ in
    let f₁ = and_right (some (name_or l.name t.accession)) _ fine in
    let f₂ = and_right (all printing (name_or l.name t.accession)) _ f₁ in
    let f₃ = and_right (all printing l.division) _ f₂ in
    record {
      name = and_left (present l.name) _ kept;
      length = and_left (present l.length) _ k₁;
      date = and_left (is_date l.date) _ k₂;
      colonless = and_left (if_is (all (but 58)) l.name) _ k₃;
      name_spaceless = and_left (if_is spaceless l.name) _ k₄;
      division_spaceless = and_left (spaceless l.division) _ k₅;
      molecule_spaceless = and_right (spaceless l.division) _ k₅;
      name_printing = and_left (all printing (name_or l.name t.accession)) _ f₁;
      division_printing = and_left (all printing l.division) _ f₂;
      molecule_printing = and_left (if_is (all printing) l.molecule) _ f₃;
      date_range = and_right (if_is (all printing) l.molecule) _ f₃;
    }

parts :
    (l : Locus) (other : May (List ℕ)) (name : List ℕ) (n : ℕ) (on : Date) → Facts l (name_or l.name other) → l.name ≡ is name → DateBack on →
    Parts name (decimal n) l.division (date_text on) l.molecule
parts l other name n on f p back =
    let nameless : spaceless name ≡ true = rw p at f.name_spaceless in
    let named : all printing name ≡ true = rw p at f.name_printing in
    record {
      name₁ = and_left (some name) _ nameless;
      name₂ = spaceless_all name named nameless;
      count₁ = some_digits 9 n;
      count₂ = all_imp digit visible digit_visible (decimal n) (all_digits 10 n);
      molecule = molecule_fine l.molecule f.molecule_printing f.molecule_spaceless;
      division₁ = and_left (some l.division) _ f.division_spaceless;
      division₂ = spaceless_all l.division f.division_printing f.division_spaceless;
      date₁ = date_some on;
      date₂ = back.seen;
    }

-- THE LOCUS LINE is read as it was written
pub locus_back :
    (t : Table) (rest : List ℕ) → locus_fine false false t ≡ true → locus_kept t.locus ≡ true → length_fits t ≡ true →
    locus (locus_text false false t ++ rest) ≡ got t.locus rest
locus_back t rest fine kept fits = go (facts t fine kept) t.locus.name refl t.locus.length refl t.locus.date refl
  where
    go :
        Facts t.locus (name_or t.locus.name t.accession) → (o : May (List ℕ)) → t.locus.name ≡ o → (u : May ℕ) → t.locus.length ≡ u →
        (v : Option Date) → t.locus.date ≡ v → locus (locus_text false false t ++ rest) ≡ got t.locus rest
    go f absent p u q v r = let h = f.name in cc
    go f (is name) p absent q v r = let h = f.length in cc
    go f (is name) p (is n) q None r = let h = f.date in cc
    go f (is name) p (is n) q (Some on) r =
        let colonless : all (but 58) name ≡ true = rw p at f.colonless in
        let size : leb n 4294967295 ≡ true = rw q at fits in
        let back : DateBack on = date_back on (rw r at f.date_range) in
        line_kept t name n on rest p q r (parts t.locus t.accession name n on f p back) colonless (leb-true n 4294967295 size) back.read
