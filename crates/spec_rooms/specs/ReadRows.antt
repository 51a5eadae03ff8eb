-- What was read has the location rows of its texts.
use Prim.Native.Nat.{ℕ, zero, suc, ◌+◌}
use Rattle.std.specs.Prelude.{Bool, false, ◌&&◌, ◌≡◌, length, drop, eqb, leb}
use Rattle.std.proofs.Math.Bool.{true}
use Rattle.std.proofs.Math.Path.{refl}
use mathlib.Core.List.{List, []}
use Rattle.spec_format.specs.Bytes.{pick, May, bytes, all}
use Rattle.spec_format.specs.Readers.{Ans, got, no, cut, bind, mapped, passing, optional, tag, spaces1, try_turn, members_up_to, members, end, many0, while_fits}
use Rattle.spec_format.specs.Table.{Locus, Qualifier, Feature, Contig, Table}
use Rattle.spec_format.specs.Header.{Field, field_bytes, header_field, every, text_in}
use Rattle.spec_format.specs.Features.{bare, qualifier, feature_kind, feature, feature_from, features_header}
use Rattle.spec_format.specs.Location.{locates, rows_in}
use Rattle.spec_format.specs.Origin.{Letters, at_slash, at_end, bad_byte, letters, origin_tag}
use Rattle.spec_format.specs.Locus.{preamble, locus}
use Rattle.spec_format.specs.Record.{Outcome, was_read, not_read, features, base_count, contig_of, contig, slashes_later, slashes, slashes_at, promised, counted, with_letters, sequence, after_origin, list_of}
use Rattle.spec_format.specs.Record.{Middle, middle, deep_in, table_from, after_header, header, after_locus, after_preamble, read_record, most, read_at}
use Rattle.spec_format.specs.Rooms.{feature_read, contig_read, locations_read}
use Rattle.spec_format.specs.declared.Unread.TheVariants as unread
use Rattle.spec_rooms.specs.LocationRows.{own_rows}

-- ---- what an answer gives passes a test, if it gives anything

abbrev gives : {A : Type 0} → (A → Bool) → Ans A → Bool
gives p (got a s) = p a
gives p no = true
gives p cut = true

abbrev anything : {A : Type 0} → A → Bool
anything a = true

gives_any : {A : Type 0} (o : Ans A) → gives anything o ≡ true
gives_any (got a s) = refl
gives_any no = refl
gives_any cut = refl

module _ {A B : Type 0} (p : A → Bool) (q : B → Bool) where
  gives_bind : (o : Ans A) (k : A → List ℕ → Ans B) → gives p o ≡ true → ((a : A) (s : List ℕ) → p a ≡ true → gives q (k a s) ≡ true) → gives q (bind o k) ≡ true
  gives_bind (got a s) k h next = next a s h
  gives_bind no k h next = refl
  gives_bind cut k h next = refl

-- whatever the first gives
gives_then : {A B : Type 0} (q : B → Bool) (o : Ans A) (k : A → List ℕ → Ans B) → ((a : A) (s : List ℕ) → gives q (k a s) ≡ true) → gives q (bind o k) ≡ true
gives_then q o k next = gives_bind anything q o k (gives_any o) (λ a s h. next a s)

module _ {A : Type 0} (p : A → Bool) where
  members_pass : (f : List ℕ → Ans A) → ((s : List ℕ) → gives p (f s) ≡ true) → (n : ℕ) (s : List ℕ) → all p (members_up_to (try_turn f) n s) ≡ true
  unfolding members_up_to
  members_pass f h zero s = refl
  members_pass f h (suc n) s = go (members_pass f h n) (f s) refl
    where
      go : ((r : List ℕ) → all p (members_up_to (try_turn f) n r) ≡ true) → (o : Ans A) → f s ≡ o → all p (members_up_to (try_turn f) (suc n) s) ≡ true
      go rest (got a r) e = let g : p a ≡ true = rw e at (h s) in rw (members_up_to, e, g) (rest r)
      go rest no e = rw (members_up_to, e)
      go rest cut e = rw (members_up_to, e)

  fits_pass : (f : List ℕ → Ans A) → ((s : List ℕ) → gives p (f s) ≡ true) → (s : List ℕ) → gives (all p) (while_fits f s) ≡ true
  unfolding members
  fits_pass f h s = gives_then (all p) (end (try_turn f) s) (λ _ r. got (members (try_turn f) s) r) (λ _ r. members_pass f h (suc (length s)) s)

-- ---- features and CONTIG

abbrev feature_with : List ℕ → List ℕ → List Qualifier → List ℕ → Ans Feature
feature_with kind location qualifiers s = got (record { kind = kind; location = location; qualifiers = qualifiers; rows = rows_in false location }) s

feature_from_lem : (indent : ℕ) (kind s : List ℕ) → gives feature_read (feature_from indent kind s) ≡ true
unfolding feature_from
feature_from_lem indent kind s =
    gives_then feature_read (passing (locates false) (bare indent s)) (λ location r. bind (many0 (qualifier indent) r) (feature_with kind location))
    (λ location r. gives_then feature_read (many0 (qualifier indent) r) (feature_with kind location) (λ _ z. own_rows false location))

feature_read_lem : (s : List ℕ) → gives feature_read (feature s) ≡ true
unfolding feature
feature_read_lem s =
    gives_then feature_read (spaces1 s)
    (λ before r. bind (feature_kind r) λ kind r. bind (spaces1 r) λ after r. feature_from (length before + length kind + length after) kind r)
    (λ before r. gives_then feature_read (feature_kind r)
    (λ kind r. bind (spaces1 r) λ after r. feature_from (length before + length kind + length after) kind r)
    (λ kind r. gives_then feature_read (spaces1 r) (λ after r. feature_from (length before + length kind + length after) kind r)
    (λ after r. feature_from_lem (length before + length kind + length after) kind r)))

features_read_lem : (s : List ℕ) → gives (all feature_read) (features s) ≡ true
unfolding features
features_read_lem s = gives_then (all feature_read) (features_header s) (λ _ r. while_fits feature r) (λ _ r. fits_pass feature_read feature feature_read_lem r)

-- ---- what stands between the header and ORIGIN

abbrev list_read : May (List Feature) → Bool
list_read fs = all feature_read (list_of fs)

list_read_lem : (s : List ℕ) (o : Ans (List Feature)) → gives (all feature_read) o ≡ true → gives list_read (optional s o) ≡ true
list_read_lem s (got fs r) h = h
list_read_lem s no h = refl
list_read_lem s cut h = refl

contig_read_lem : (s : List ℕ) (o : Ans (List ℕ)) → gives contig_read (optional s (mapped contig_of o)) ≡ true
contig_read_lem s (got t r) = own_rows true t
contig_read_lem s no = refl
contig_read_lem s cut = refl

abbrev middle_read : Middle → Bool
middle_read m = all feature_read m.features && contig_read m.contig

abbrev middle_with : May (List Feature) → May Contig → List ℕ → Ans Middle
middle_with fs c s = got (record { features = list_of fs; contig = c }) s

middle_read_lem : (s : List ℕ) → gives middle_read (middle s) ≡ true
unfolding middle
middle_read_lem s =
    gives_bind list_read middle_read (optional s (features s)) (λ fs r. bind (optional r (base_count r)) λ _ r. bind (optional r (contig r)) (middle_with fs))
    (list_read_lem s (features s) (features_read_lem s))
    (λ fs r f. gives_then middle_read (optional r (base_count r)) (λ _ r. bind (optional r (contig r)) (middle_with fs))
    (λ _ r. gives_bind contig_read middle_read (optional r (contig r)) (middle_with fs) (contig_read_lem r (passing (locates true) (field_bytes 0 (bytes "CONTIG") false r)))
    (λ c r g. rw f g)))

-- ---- the record

abbrev outcome_read : Outcome → Bool
outcome_read (was_read t rest) = locations_read t
outcome_read (not_read why) = true

pick_read : (b : Bool) (x y : Outcome) → outcome_read x ≡ true → outcome_read y ≡ true → outcome_read (pick b x y) ≡ true
pick_read true x y h k = h
pick_read false x y h k = k

module _ (t : Table) (h : locations_read t ≡ true) where
  slashes_read : (s : List ℕ) (o : Ans Unit) → outcome_read (slashes t s o) ≡ true
  slashes_read s (got u r) = h
  slashes_read s no = pick_read (slashes_later s) (not_read unread.NoSlashes) (not_read unread.Unended) refl refl
  slashes_read s cut = refl

letters_read : (t : Table) → locations_read t ≡ true → (l : List ℕ) → locations_read (with_letters t l) ≡ true
unfolding locations_read
letters_read t h l = h

module _ (t : Table) (h : locations_read t ≡ true) where
  sequence_read : (o : Letters) → outcome_read (sequence t o) ≡ true
  sequence_read (at_slash l r) =
      pick_read (promised t.locus.length (length l)) (slashes_at (with_letters t l) r) (not_read unread.OtherLength)
      (slashes_read (with_letters t l) (letters_read t h l) r (tag (bytes "//") r)) refl
  sequence_read (at_end l) =
      pick_read (counted t.locus.length (length l)) (was_read (with_letters t l) []) (not_read unread.Unended) (letters_read t h l) refl
  sequence_read (bad_byte r) = refl

  origin_read : (s : List ℕ) (o : Ans (List ℕ)) → outcome_read (after_origin t s o) ≡ true
  origin_read s (got u r) = sequence_read (letters r)
  origin_read s no = slashes_read t h s (tag (bytes "//") s)
  origin_read s cut = refl

from_read : (l : Locus) (fs : List Field) (m : Middle) → middle_read m ≡ true → locations_read (table_from l fs m) ≡ true
unfolding locations_read table_from
from_read l fs m h = h

after_header_lem : (l : Locus) (fs : List Field) (o : Ans Middle) → gives middle_read o ≡ true → outcome_read (after_header l fs o) ≡ true
after_header_lem l fs (got m s) h = origin_read (table_from l fs m) (from_read l fs m h) s (origin_tag s)
after_header_lem l fs no h = refl
after_header_lem l fs cut h = refl

header_read : (l : Locus) (s : List ℕ) (o : Ans (List Field)) → outcome_read (header l s o) ≡ true
header_read l s (got fs r) =
    pick_read (leb (length (every (text_in (bytes "DEFINITION")) fs)) 1) (pick (deep_in r) (not_read unread.TooDeep) (after_header l fs (middle r))) (not_read unread.TwoDefinitions)
    (pick_read (deep_in r) (not_read unread.TooDeep) (after_header l fs (middle r)) refl (after_header_lem l fs (middle r) (middle_read_lem r))) refl
header_read l s no = refl
header_read l s cut = refl

locus_read : (o : Ans Locus) → outcome_read (after_locus o) ≡ true
locus_read (got l s) = header_read l s (while_fits header_field s)
locus_read no = refl
locus_read cut = refl

preamble_read : (o : Ans Unit) → outcome_read (after_preamble o) ≡ true
preamble_read (got u s) = locus_read (locus s)
preamble_read no = refl
preamble_read cut = refl

record_read : (s : List ℕ) → outcome_read (read_record s) ≡ true
unfolding read_record
record_read s = preamble_read (preamble s)

at_read : (s : List ℕ) (at : ℕ) → outcome_read (read_at s at) ≡ true
unfolding read_at
at_read s at =
    pick_read (leb (length s) most && leb at (length s)) (pick (eqb at (length s)) (not_read unread.AtEnd) (read_record (drop at s))) (not_read unread.BadPlace)
    (pick_read (eqb at (length s)) (not_read unread.AtEnd) (read_record (drop at s)) refl (record_read (drop at s))) refl

-- WHAT WAS READ HAS THE LOCATION ROWS OF ITS TEXTS
pub read_rows : (s : List ℕ) (at : ℕ) (t : Table) (rest : List ℕ) → read_at s at ≡ was_read t rest → locations_read t ≡ true
read_rows s at t rest e = rw e at (at_read s at)
