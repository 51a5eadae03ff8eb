-- WHAT THE STRICT SWITCH PROMISES (document 02, ticket 7). Each statement can be read without its proof.
use Rattle.std.specs.Prelude.{ℕ, ◌≤◌, ◌<◌, Bool, true, false, ◌&&◌, ◌||◌, List, ◌∷◌, ◌++◌, ◌↔◌, ◌≡◌, refl, length, drop}
use Rattle.std.proofs.Common.{sym, ap, ◌∙◌}
use Rattle.spec_bases.specs.Bases.{coded}
use Rattle.spec_format.specs.Bytes.{is, all, letter}
use Rattle.spec_format.specs.Table.{Table}
use Rattle.spec_format.specs.Origin.{skipped}
use Rattle.spec_format.specs.Record.{was_read, not_read, read_record, most, read_at}
use Rattle.spec_format.specs.Rooms.{Rooms, answer_of, read_answer, rooms_of, rooms_after}
use Rattle.spec_format.specs.Strict.{stray, stray_in, record_by, read_by, letters_fit}
use Rattle.spec_format.specs.declared.Unread.{Unread}
use Rattle.spec_format.specs.declared.Unread.TheVariants as unread
use Rattle.spec_strict.specs.Laws.{strictly_other}
use Rattle.spec_strict.specs.Grounds.{record_as_read, record_codes, record_alike, record_stray, stray_refused, inside_placed, placed_as, placed_read, placed_stray, stray_after_lem, before_stray, stray_letter}

-- ---- off

-- With the switch off, every slice is read at every place as before there was a switch.
pub off : (s : List ℕ) (at : ℕ) → read_by false s at ≡ read_at s at
unfolding read_by record_by read_at
off s at = refl

-- The reader's answer is then the one of that reading, whatever rooms are lent.
pub off_answer : (s : List ℕ) (at : ℕ) (r : Rooms) → read_answer false s at r ≡ answer_of (length s) r (read_at s at)
unfolding read_answer
off_answer s at r = ap (answer_of (length s) r) (off s at)

-- And so are the rooms afterwards.
pub off_rooms : (s : List ℕ) (at : ℕ) (r : Rooms) → rooms_after false s at r ≡ rooms_of r (read_at s at)
unfolding rooms_after
off_rooms s at r = ap (rooms_of r) (off s at)

-- ---- on, what is read

-- A record that is read with the switch on is read without it, as the same table and up to the same place.
pub as_read : (strict : Bool) (s : List ℕ) (at : ℕ) (t : Table) (rest : List ℕ) → read_by strict s at ≡ was_read t rest → read_at s at ≡ was_read t rest
unfolding read_by read_at
as_read strict s at t rest e = placed_as (record_by strict) read_record s at t rest (record_as_read (drop at s) t rest strict) e

-- Its letters all have codes.
pub codes_read : (strict : Bool) (s : List ℕ) (at : ℕ) (t : Table) (rest : List ℕ) → read_by strict s at ≡ was_read t rest → letters_fit strict t ≡ true
unfolding read_by
codes_read strict s at t rest e = record_codes (drop at s) t rest strict (placed_read (record_by strict) s at t rest e)

-- And every record that is read without the switch, and whose letters all have codes, is read with it on.
pub reads_alike : (strict : Bool) (s : List ℕ) (at : ℕ) (t : Table) (rest : List ℕ) → read_at s at ≡ was_read t rest → letters_fit strict t ≡ true →
    read_by strict s at ≡ was_read t rest
unfolding read_by read_at
reads_alike strict s at t rest e h = placed_as read_record (record_by strict) s at t rest (λ k. record_alike (drop at s) t rest strict k h) e

-- ---- on, what is refused by 16

-- A letter with a code, or a byte that is skipped among letters. No `/` passes, and no byte that is refused by 9.
abbrev pub passes : ℕ → Bool
passes b = (letter b && coded b) || skipped b

-- In what stands after ORIGIN's line, z is what stands from the first letter without a code on: all that is before it passes.
pub record Stray (s z : List ℕ) : Type 0 where
  pub before : List ℕ
  pub byte : ℕ
  pub rest : List ℕ
  pub whole : s ≡ before ++ byte ∷ rest
  pub starts : z ≡ byte ∷ rest
  pub passed : all passes before ≡ true
  pub lettered : letter byte ≡ true
  pub uncoded : coded byte ≡ false

-- That is what `stray` finds, and it finds nothing else.
pub stray_is : (s z : List ℕ) → (stray s ≡ is z) ↔ Stray s z
stray_is s z = (found, back)
  where
    found : stray s ≡ is z → Stray s z
    found e =
        let b = before_stray s z e in
        let l = stray_letter s z e in
        record {
          before = b.0;
          byte = l.0;
          rest = l.1.0;
          whole = b.1.0 ∙ ap (λ (x : List ℕ). b.0 ++ x) l.1.1.0;
          starts = l.1.1.0;
          passed = b.1.1;
          lettered = l.1.1.1.0;
          uncoded = l.1.1.1.1;
        }

    back : Stray s z → stray s ≡ is z
    back k = ap stray k.whole ∙ (stray_after_lem k.before k.byte k.rest k.passed k.lettered k.uncoded ∙ ap is (sym k.starts))

-- The slice is not too large, the place is before its end, and the reading of the record there comes to letters among which a stray one stands.
pub record StrayThere (s : List ℕ) (at : ℕ) : Type 0 where
  pub small : length s ≤ most
  pub inside : at < length s
  pub from : List ℕ
  pub stands : stray_in (drop at s) ≡ is from

-- With the switch on, 16 is answered exactly there.
pub sixteen : (s : List ℕ) (at : ℕ) → (read_by true s at ≡ not_read unread.StrayLetter) ↔ StrayThere s at
unfolding read_by
sixteen s at = (there, back)
  where
    there : read_by true s at ≡ not_read unread.StrayLetter → StrayThere s at
    there e =
        let p = placed_stray (record_by true) s at e in
        let z = record_stray true (drop at s) p.1.1 in
        record { small = p.0; inside = p.1.0; from = z.0; stands = z.1 }

    back : StrayThere s at → read_by true s at ≡ not_read unread.StrayLetter
    back k = inside_placed (record_by true) s at k.small k.inside ∙ stray_refused (drop at s) k.from k.stands

-- Where a record is refused by 16, a stray letter stands in it.
pub stray_stands : (strict : Bool) (s : List ℕ) → record_by strict s ≡ not_read unread.StrayLetter → (z : List ℕ) × (stray_in s ≡ is z)
stray_stands strict s e = record_stray strict s e

-- ---- on, what is refused by another number

-- A record that is refused by another number than 16 is refused by the same number without the switch.
pub other_refusal : (strict : Bool) (s : List ℕ) (why : Unread) → record_by strict s ≡ not_read why → (why ≡ unread.StrayLetter → ⊥) → read_record s ≡ not_read why
unfolding record_by
other_refusal strict s why e other = strictly_other strict (stray_in s) (read_record s) why e other
