-- Where the letters of a record are, and what it is read as then: the steps of reading, one by one.
use Rattle.std.specs.Prelude.{ℕ, Bool, true, false, List, [], ◌≡◌, refl, length}
use Rattle.std.proofs.Common.{ap, ◌∙◌}
use Rattle.spec_format.specs.Bytes.{pick, bytes}
use Rattle.spec_format.specs.Impossible.{impossible}
use Rattle.spec_format.specs.Readers.{Ans, got, no, cut, bind, tag, while_fits}
use Rattle.spec_format.specs.Table.{Locus, Table}
use Rattle.spec_format.specs.Locus.{preamble, locus}
use Rattle.spec_format.specs.Header.{Field, header_field}
use Rattle.spec_format.specs.Origin.{origin_tag, Letters, at_slash, at_end, bad_byte, letters}
use Rattle.spec_format.specs.Record.{Outcome, was_read, not_read, slashes_later, slashes, slashes_at, promised, counted, with_letters, sequence, after_origin}
use Rattle.spec_format.specs.Record.{Middle, middle, deep_in, table_from, after_header, once, header, after_locus, after_preamble, read_record}
use Rattle.spec_format.specs.Strict.{letters_below, letters_after, letters_from}
use Rattle.spec_format.specs.declared.Unread.TheVariants as unread

-- a table without letters, or a refusal other than 16
abbrev pub Plain : Outcome → Type 0
Plain (was_read t rest) = t.letters ≡ []
Plain (not_read why) = why ≡ unread.StrayLetter → ⊥

abbrev pub missing : {A : Type 0} → Ans A → Bool
missing (got a s) = false
missing no = true
missing cut = true

-- `from` says where the letters are, `o` what the record is read as
pub data Coming (from : Ans (List ℕ)) (o : Outcome) : Type 0 where
  comes_to : (u z : List ℕ) (t : Table) → from ≡ got u z → t.letters ≡ [] → o ≡ sequence t (letters z) → Coming from o
  comes_short : missing from ≡ true → Plain o → Coming from o

-- EITHER THE READING COMES TO THE LETTERS, and they decide the rest; or it does not, and no letter is read
abbrev pub Comes : List ℕ → Type 0
Comes s = Coming (letters_from s) (read_record s)

-- ---- step by step, last one first

pick_plain : (b : Bool) (x y : Outcome) → Plain x → Plain y → Plain (pick b x y)
pick_plain true x y h k = h
pick_plain false x y h k = k

pick_comes : (b : Bool) (p q : Ans (List ℕ)) (x y : Outcome) → Coming p x → Coming q y → Coming (pick b p q) (pick b x y)
pick_comes true p q x y h k = h
pick_comes false p q x y h k = k

slashes_plain : (t : Table) (s : List ℕ) (o : Ans Unit) → t.letters ≡ [] → Plain (slashes t s o)
slashes_plain t s (got u r) h = h
slashes_plain t s no h = pick_plain (slashes_later s) (not_read unread.NoSlashes) (not_read unread.Unended) (λ e. impossible cc) (λ e. impossible cc)
slashes_plain t s cut h = λ e. impossible cc

origin_comes : (t : Table) (s : List ℕ) (o : Ans (List ℕ)) → t.letters ≡ [] → Coming o (after_origin t s o)
origin_comes t s (got u z) h = comes_to u z t refl h refl
origin_comes t s no h = comes_short refl (slashes_plain t s (tag (bytes "//") s) h)
origin_comes t s cut h = comes_short refl (λ e. impossible cc)

from_none : (l : Locus) (fs : List Field) (m : Middle) → (table_from l fs m).letters ≡ []
unfolding table_from
from_none l fs m = refl

middle_comes : (l : Locus) (fs : List Field) (o : Ans Middle) → Coming (bind o λ _ s. origin_tag s) (after_header l fs o)
middle_comes l fs (got m s) = origin_comes (table_from l fs m) s (origin_tag s) (from_none l fs m)
middle_comes l fs no = comes_short refl (λ e. impossible cc)
middle_comes l fs cut = comes_short refl (λ e. impossible cc)

header_comes : (l : Locus) (s : List ℕ) (o : Ans (List Field)) → Coming (bind o letters_after) (header l s o)
header_comes l s (got fs r) =
    pick_comes (once fs) (letters_below r) no (pick (deep_in r) (not_read unread.TooDeep) (after_header l fs (middle r))) (not_read unread.TwoDefinitions)
    (pick_comes (deep_in r) no (bind (middle r) λ _ s. origin_tag s) (not_read unread.TooDeep) (after_header l fs (middle r)) (comes_short refl (λ e. impossible cc)) (middle_comes l fs (middle r)))
    (comes_short refl (λ e. impossible cc))
header_comes l s no = comes_short refl (λ e. impossible cc)
header_comes l s cut = comes_short refl (λ e. impossible cc)

locus_comes : (o : Ans Locus) → Coming (bind o λ _ s. bind (while_fits header_field s) letters_after) (after_locus o)
locus_comes (got l s) = header_comes l s (while_fits header_field s)
locus_comes no = comes_short refl (λ e. impossible cc)
locus_comes cut = comes_short refl (λ e. impossible cc)

preamble_comes : (o : Ans Unit) → Coming (bind o λ _ s. bind (locus s) λ _ s. bind (while_fits header_field s) letters_after) (after_preamble o)
preamble_comes (got u s) = locus_comes (locus s)
preamble_comes no = comes_short refl (λ e. impossible cc)
preamble_comes cut = comes_short refl (λ e. impossible cc)

pub comes : (s : List ℕ) → Comes s
unfolding letters_from read_record
comes s = preamble_comes (preamble s)

pub plain_letters : (o : Outcome) (t : Table) (rest : List ℕ) → Plain o → o ≡ was_read t rest → t.letters ≡ []
plain_letters (was_read x r) t rest h e = let f : t ≡ x = cc in ap (λ (y : Table). y.letters) f ∙ h
plain_letters (not_read why) t rest h e = impossible cc

-- ---- what was read without the switch is never 16

plain_not : (o : Outcome) → Plain o → o ≡ not_read unread.StrayLetter → ⊥
plain_not (was_read t rest) h e = impossible cc
plain_not (not_read why) h e = h cc

slashes_not : (t : Table) (s : List ℕ) (o : Ans Unit) → slashes t s o ≡ not_read unread.StrayLetter → ⊥
slashes_not t s (got u r) e = impossible cc
slashes_not t s no e = go (slashes_later s) e
  where
    go : (b : Bool) → pick b (not_read unread.NoSlashes) (not_read unread.Unended) ≡ not_read unread.StrayLetter → ⊥
    go true e = impossible cc
    go false e = impossible cc
slashes_not t s cut e = impossible cc

sequence_not : (t : Table) (o : Letters) → sequence t o ≡ not_read unread.StrayLetter → ⊥
sequence_not t (at_slash l r) e = go (promised t.locus.length (length l)) e
  where
    go : (b : Bool) → pick b (slashes_at (with_letters t l) r) (not_read unread.OtherLength) ≡ not_read unread.StrayLetter → ⊥
    go true e = slashes_not (with_letters t l) r (tag (bytes "//") r) e
    go false e = impossible cc
sequence_not t (at_end l) e = go (counted t.locus.length (length l)) e
  where
    go : (b : Bool) → pick b (was_read (with_letters t l) []) (not_read unread.Unended) ≡ not_read unread.StrayLetter → ⊥
    go true e = impossible cc
    go false e = impossible cc
sequence_not t (bad_byte r) e = impossible cc

pub never_stray : (s : List ℕ) → read_record s ≡ not_read unread.StrayLetter → ⊥
never_stray s e = go (comes s)
  where
    go : Comes s → ⊥
    go (comes_to u z t p h k) = sequence_not t (letters z) cc
    go (comes_short p h) = plain_not (read_record s) h e
