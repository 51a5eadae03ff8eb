-- The laws of ORIGIN and of the record's end: each answer by the answer of the part before.
use Rattle.std.specs.Prelude.{Option}
use Prim.Native.Nat.{ℕ, ◌≤◌, ◌<◌}
use native.Mathlib.Nat.{le_refl}
use native.Mathlib.Omega.{arith}
use mathlib.Core.Bool.{Bool, true, false}
use mathlib.Core.Path.{◌≡◌, refl, sym, ap, subst, ◌∙◌}
use mathlib.Core.List.{List, []}
use lib.ListN.{length, drop, get_or, drop_of_length-le}
use lib.Seq.{drop-cons}
use Rattle.spec_format.specs.Readers.{Ans, got, no, cut, bind, or_else}
use Rattle.spec_format.specs.Table.{Table}
use Rattle.spec_format.specs.Bytes.{pick, letter, starts}
use Rattle.spec_format.specs.Origin.{origin_tag, at_slash, at_end, bad_byte, letters}
use Rattle.spec_format.specs.Record.{Outcome, not_read, with_letters, slashes_at, promised, counted, sequence, after_origin}
use Rattle.spec_format.specs.Strict.{stray, stray_after, strictly}
use Rattle.spec_format.specs.Rooms.{may_length}
use Rattle.spec_format.specs.declared.Unread.{Unread}
use Rattle.spec_format.specs.declared.Unread.TheVariants as unread
use Rattle.scan_bytes.specs.Views.{step_of, Past, Stepped, Texted, Emptied, empty_of, PastOne, Lined}
use Rattle.scan_bytes.specs.Sequence.{step_places, text_places, line_places, step_is, text_is, line_is, step_within, text_within, text_got}
use Rattle.scan_bytes.specs.Places.{part}
use Rattle.scan_bytes.specs.declared.Step.{Step}
use Rattle.scan_bytes.specs.declared.Step.TheVariants as step
use Rattle.scan_bytes.specs.declared.Line.{Line}
use Rattle.scan_bytes.specs.declared.Line.TheVariants as line
use Rattle.read_letters.specs.declared.Counted.{Counted}
use Rattle.read_letters.specs.declared.Counted.TheVariants as count
use Rattle.read_letters.specs.Runs.{letters_by, tally, PastCounted, Counts, sifted}
use Rattle.read_letters.specs.Switch.{SlashCounted, EndCounted, BadBy, unstrayed, strayed, count_slash, count_end, count_bad}
use Rattle.spec_strict.specs.Laws.{strictly_none}
use Rattle.read_slashes.specs.declared.RecordEnd.{RecordEnd}
use Rattle.read_slashes.specs.declared.RecordEnd.TheVariants as record-end
use Rattle.read_slashes.specs.Ends.{PastEnd, Ended}
use Rattle.read_origin.specs.declared.EndAt.{EndAt}
use Rattle.read_origin.specs.declared.EndAt.TheVariants as ended
use Rattle.read_origin.specs.Ends.{passed, Passed, letters_then, sequence_then, origin_then, bad_by, Before, Ends}
use Rattle.spec_format.specs.Impossible.{impossible}

-- ---- ORIGIN

pub passed_places : {s : List ℕ} {at : ℕ} {o : Ans (List ℕ)} {r : Step} {n : ℕ} → Passed s at o r → r ≡ step.Got n → (at ≤ n) × (n ≤ length s)
passed_places {s} {at} h e = subst (λ (x : Step). Past s at x) e h.place

passed_empty : (s : List ℕ) (r : Step) → step_of s r ≡ passed (empty_of s r)
passed_empty s (step.Got n) = refl
passed_empty s step.No = refl
passed_empty s step.Cut = refl

past_one : (s : List ℕ) (at from : ℕ) (r : Step) → at ≤ from → PastOne s from r → Past s at r
past_one s at from (step.Got n) h p = (omega arith, p.1)
past_one s at from step.No h p = tt
past_one s at from step.Cut h p = tt

past_from : (s : List ℕ) (at from : ℕ) (r : Step) → at ≤ from → Past s from r → Past s at r
past_from s at from (step.Got n) h p = (omega arith, p.1)
past_from s at from step.No h p = tt
past_from s at from step.Cut h p = tt

module _ (s : List ℕ) (at : ℕ) (o : Ans (List ℕ)) (f : List ℕ → List ℕ → Ans (List ℕ)) (r : Step) (h : Texted s at o r) where
  pub gap_no : r ≡ step.No → Passed s at (bind o f) step.No
  gap_no e = record { is = rw (← h.is, e); place = tt }

  pub gap_cut : r ≡ step.Cut → Passed s at (bind o f) step.Cut
  gap_cut e = record { is = rw (← h.is, e); place = tt }

  pub gap_end_lem : (n : ℕ) (q : Step) → r ≡ step.Got n → Emptied s n (f (part at n s) (drop n s)) q → Passed s at (bind o f) q
  gap_end_lem n q e w =
      let k : empty_of s q ≡ bind o f = text_got s at o r f n (empty_of s q) h e w.is in
      record { is = passed_empty s q ∙ ap passed k; place = past_one s at n q (text_places h e).0 w.place }

  pub gap_then : (n : ℕ) (q : Step) → r ≡ step.Got n → Passed s n (f (part at n s) (drop n s)) q → Passed s at (bind o f) q
  gap_then n q e w =
      record { is = w.is ∙ ap (λ (x : Ans (List ℕ)). passed (bind x f)) (sym (text_is h e)); place = past_from s at n q (text_places h e).0 w.place }

module _ (s : List ℕ) (at : ℕ) (o : Ans Unit) (f : Unit → List ℕ → Ans (List ℕ)) (r : Step) (h : Stepped s at o r) where
  pub word_no : r ≡ step.No → Passed s at (bind o f) step.No
  word_no e = record { is = rw (← h.is, e); place = tt }

  pub word_cut : r ≡ step.Cut → Passed s at (bind o f) step.Cut
  word_cut e = record { is = rw (← h.is, e); place = tt }

  pub word_then : (n : ℕ) (q : Step) → r ≡ step.Got n → Passed s n (f tt (drop n s)) q → Passed s at (bind o f) q
  word_then n q e w =
      record { is = w.is ∙ ap (λ (x : Ans Unit). passed (bind x f)) (sym (step_is h e)); place = past_from s at n q (step_places h e).0 w.place }

passed_else : (a b : Ans (List ℕ)) → passed a ≡ no → or_else a b ≡ b
passed_else (got t r) b e = impossible cc
passed_else no b e = refl
passed_else cut b e = impossible cc

passed_got : (a b : Ans (List ℕ)) (n : List ℕ) → passed a ≡ got tt n → passed (or_else a b) ≡ got tt n
passed_got (got t r) b n e = e
passed_got no b n e = impossible cc
passed_got cut b n e = impossible cc

passed_cut : (a b : Ans (List ℕ)) → passed a ≡ cut → passed (or_else a b) ≡ cut
passed_cut (got t r) b e = e
passed_cut no b e = impossible cc
passed_cut cut b e = refl

module _ (s : List ℕ) (at : ℕ) (a b : Ans (List ℕ)) (r : Step) (h : Passed s at a r) where
  pub else_got : (n : ℕ) → r ≡ step.Got n → Passed s at (or_else a b) (step.Got n)
  else_got n e = record { is = sym (passed_got a b (drop n s) (sym h.is ∙ rw e)); place = passed_places h e }

  pub else_cut : r ≡ step.Cut → Passed s at (or_else a b) step.Cut
  else_cut e = record { is = sym (passed_cut a b (sym h.is ∙ rw e)); place = tt }

  pub else_no : (q : Step) → r ≡ step.No → Passed s at b q → Passed s at (or_else a b) q
  else_no q e w = record { is = w.is ∙ ap passed (sym (passed_else a b (sym h.is ∙ rw e))); place = w.place }

module _ (s : List ℕ) (at : ℕ) (o : Ans (List ℕ)) (r : Line) (h : Lined s at o r) where
  pub lined_got : (end next : ℕ) → r ≡ line.Got end next → Passed s at o (step.Got next)
  lined_got end next e = let p = line_places h e in record { is = rw (line_is h e); place = (omega arith, p.2) }

  pub lined_no : r ≡ line.No → Passed s at o step.No
  lined_no e = record { is = rw (← h.is, e); place = tt }

  pub lined_cut : r ≡ line.Cut → Passed s at o step.Cut
  lined_cut e = record { is = rw (← h.is, e); place = tt }

pub ruleset tagging = (
  gap_no,
  gap_cut,
  gap_end_lem,
  gap_then,
  word_no,
  word_cut,
  word_then,
  else_got,
  else_cut,
  else_no,
  lined_got,
  lined_no,
  lined_cut,
  step_within,
  text_within,
)

-- ---- the record's end

at_end_lem : (s : List ℕ) → drop (length s) s ≡ []
at_end_lem s = drop_of_length-le s (le_refl (length s))

module _ (s : List ℕ) (at lettersAt n : ℕ) (given : Option ℕ) (r : RecordEnd) (h : Ended s at r) where
  pub slashes_at_lem : (place : ℕ) → r ≡ record-end.At place → lettersAt ≤ length s → n ≡ length (sifted (drop lettersAt s)) →
      Ends s given (letters_then (sifted (drop lettersAt s)) (drop at s)) (ended.Got lettersAt n place)
  unfolding letters_then
  slashes_at_lem place e l k =
      let p : PastEnd s at (record-end.At place) = subst (λ (x : RecordEnd). PastEnd s at x) e h.place in
      record {
        is = record {
          is = λ t b. sym (h.is (with_letters t (sifted (drop lettersAt s)))) ∙ rw e;
          counted = k;
          lettered = l;
          within = p.1;
        };
      }

  pub slashes_no : r ≡ record-end.NoSlashes → Ends s given (letters_then (sifted (drop lettersAt s)) (drop at s)) (ended.Refused unread.NoSlashes)
  unfolding letters_then
  slashes_no e = record { is = λ t b. sym (h.is (with_letters t (sifted (drop lettersAt s)))) ∙ rw e }

  pub slashes_never : r ≡ record-end.Unended → Ends s given (letters_then (sifted (drop lettersAt s)) (drop at s)) (ended.Refused unread.Unended)
  unfolding letters_then
  slashes_never e = record { is = λ t b. sym (h.is (with_letters t (sifted (drop lettersAt s)))) ∙ rw e }

pub ruleset slashing = (slashes_at_lem, slashes_no, slashes_never)

-- ---- the letters

-- the same end for another function of the table
ends_as : (s : List ℕ) (given : Option ℕ) (o q : Table → Outcome) (r : EndAt) → ((t : Table) → Before given t → q t ≡ o t) → Ends s given o r → Ends s given q r
ends_as s given o q (ended.Got a n p) e h =
    record { is = record { is = λ t b. e t b ∙ h.is.is t b; counted = h.is.counted; lettered = h.is.lettered; within = h.is.within } }
ends_as s given o q (ended.Refused why) e h = record { is = λ t b. e t b ∙ h.is t b }

module _ (s : List ℕ) (at : ℕ) (given : Option ℕ) (strict : Bool) (r : Counted) (h : Counts s at (tally (letters_by strict (drop at s))) r) where
  module _ (n next : ℕ) (e : r ≡ count.AtSlash n next) where
    slash_places : (n ≤ next) × (next ≤ length s)
    slash_places = let p : PastCounted s at (count.AtSlash n next) = subst (λ (x : Counted). PastCounted s at x) e h.place in (omega arith, p.1)

    pub slash_within : next ≤ length s
    slash_within = slash_places.1

    slash_is : SlashCounted strict (drop at s) n (drop next s)
    slash_is = count_slash strict (drop at s) n (drop next s) (rw e at h.is)

    pub slash_counted : n ≡ length (sifted (drop at s))
    slash_counted = sym slash_is.counted

    module _ (b : Bool) (f : b ≡ promised (may_length given) n) where
      pub letters_slash : (q : EndAt) → b ≡ true → ((g : Option ℕ) → Ends s g (letters_then (sifted (drop at s)) (drop next s)) q) →
          Ends s given (sequence_then strict (drop at s)) q
      unfolding letters_then sequence_then
      letters_slash q k w =
          ends_as s given (letters_then (sifted (drop at s)) (drop next s)) (sequence_then strict (drop at s)) q
          (λ t d. unstrayed strict (drop at s) (sequence t (letters (drop at s))) slash_is.unstrayed ∙ rw (slash_is.is, d.length, slash_is.counted, ← f, k)) (w given)

      pub letters_other : b ≡ false → Ends s given (sequence_then strict (drop at s)) (ended.Refused unread.OtherLength)
      unfolding sequence_then
      letters_other k =
          record { is = λ t d. unstrayed strict (drop at s) (sequence t (letters (drop at s))) slash_is.unstrayed ∙ rw (slash_is.is, d.length, slash_is.counted, ← f, k) }

  module _ (n : ℕ) (e : r ≡ count.AtEnd n) where
    end_is : EndCounted strict (drop at s) n
    end_is = count_end strict (drop at s) n (rw e at h.is)

    module _ (b : Bool) (f : b ≡ counted (may_length given) n) where
      pub letters_end_lem : b ≡ true → at ≤ length s → Ends s given (sequence_then strict (drop at s)) (ended.Got at n (length s))
      unfolding sequence_then
      letters_end_lem k l =
          record {
            is = record {
              is = λ t d. unstrayed strict (drop at s) (sequence t (letters (drop at s))) end_is.unstrayed ∙ rw (end_is.is, d.length, end_is.counted, ← f, k, at_end_lem s);
              counted = sym end_is.counted;
              lettered = l;
              within = omega arith;
            };
          }

      pub letters_unended : b ≡ false → Ends s given (sequence_then strict (drop at s)) (ended.Refused unread.Unended)
      unfolding sequence_then
      letters_unended k =
          record { is = λ t d. unstrayed strict (drop at s) (sequence t (letters (drop at s))) end_is.unstrayed ∙ rw (end_is.is, d.length, end_is.counted, ← f, k) }

  module _ (next : ℕ) (e : r ≡ count.Bad next) where
    pub bad_within : next < length s
    bad_within = let p : PastCounted s at (count.Bad next) = subst (λ (x : Counted). PastCounted s at x) e h.place in p.1

    -- a byte that is no letter is 9, a letter 16
    refused_by : (x : Bool) → BadBy x strict (drop at s) (drop next s) → (t : Table) →
        strictly strict (stray (drop at s)) (sequence t (letters (drop at s))) ≡ not_read (pick x unread.StrayLetter unread.BadLetter)
    refused_by true k t = strayed strict (drop at s) (drop next s) (sequence t (letters (drop at s))) k
    refused_by false k t = unstrayed strict (drop at s) (sequence t (letters (drop at s))) k.1 ∙ rw k.0

    pub letters_bad : (why : Unread) → why ≡ bad_by (drop next s) → Ends s given (sequence_then strict (drop at s)) (ended.Refused why)
    unfolding sequence_then
    letters_bad why f =
        let k : BadBy (starts letter (drop next s)) strict (drop at s) (drop next s) = count_bad strict (drop at s) (drop next s) (rw e at h.is) in
        record { is = λ t d. refused_by (starts letter (drop next s)) k t ∙ ap not_read (sym f) }

pub ruleset sequencing = (slash_within, slash_counted, letters_slash, letters_other, letters_end_lem, letters_unended, bad_within, letters_bad)

-- the byte at a place, and the bytes from it on
pub byte_there : (s : List ℕ) (at : ℕ) → at < length s → starts letter (drop at s) ≡ letter (get_or s at 0)
byte_there s at h = rw (drop-cons s at 0 h)

pub stray_there : (s : List ℕ) (at : ℕ) (b : Bool) → at < length s → b ≡ letter (get_or s at 0) → b ≡ true → unread.StrayLetter ≡ bad_by (drop at s)
stray_there s at b h e f = rw (byte_there s at h, ← e, f)

pub bad_there : (s : List ℕ) (at : ℕ) (b : Bool) → at < length s → b ≡ letter (get_or s at 0) → b ≡ false → unread.BadLetter ≡ bad_by (drop at s)
bad_there s at b h e f = rw (byte_there s at h, ← e, f)

-- ---- ORIGIN or none

module _ (strict : Bool) (t : Table) (s : List ℕ) where
  then_sequence : (r : List ℕ) (o : Ans (List ℕ)) → got tt r ≡ passed o → strictly strict (stray_after o) (after_origin t s o) ≡ strictly strict (stray r) (sequence t (letters r))
  then_sequence r (got u z) e = let k : r ≡ z = cc in rw k
  then_sequence r no e = impossible cc
  then_sequence r cut e = impossible cc

  then_slashes : (o : Ans (List ℕ)) → no ≡ passed o → strictly strict (stray_after o) (after_origin t s o) ≡ slashes_at t s
  then_slashes (got u z) e = impossible cc
  then_slashes no e = strictly_none strict (slashes_at t s)
  then_slashes cut e = impossible cc

  then_cut : (o : Ans (List ℕ)) → cut ≡ passed o → strictly strict (stray_after o) (after_origin t s o) ≡ not_read unread.Unended
  then_cut (got u z) e = impossible cc
  then_cut no e = impossible cc
  then_cut cut e = strictly_none strict (not_read unread.Unended)

pub none_there : (s : List ℕ) → sifted (drop (length s) s) ≡ []
unfolding sifted
none_there s = rw (at_end_lem s)

pub none_counted : (s : List ℕ) → 0 ≡ length (sifted (drop (length s) s))
none_counted s = rw (none_there s)

module _ (s : List ℕ) (at : ℕ) (given : Option ℕ) (strict : Bool) (r : Step) (h : Passed s at (origin_tag (drop at s)) r) where
  pub passed_within : (n : ℕ) → r ≡ step.Got n → n ≤ length s
  passed_within n e = (passed_places h e).1

  pub origin_then_lem : (n : ℕ) (q : EndAt) → r ≡ step.Got n → Ends s given (sequence_then strict (drop n s)) q → Ends s given (origin_then strict (drop at s)) q
  unfolding sequence_then origin_then
  origin_then_lem n q e w =
      ends_as s given (sequence_then strict (drop n s)) (origin_then strict (drop at s)) q
      (λ t d. then_sequence strict t (drop at s) (drop n s) (origin_tag (drop at s)) (rw e at h.is)) w

  pub origin_none : (q : EndAt) → r ≡ step.No → ((g : Option ℕ) → Ends s g (letters_then (sifted (drop (length s) s)) (drop at s)) q) → Ends s given (origin_then strict (drop at s)) q
  unfolding letters_then origin_then
  origin_none q e w =
      ends_as s given (letters_then (sifted (drop (length s) s)) (drop at s)) (origin_then strict (drop at s)) q
      (λ t d. then_slashes strict t (drop at s) (origin_tag (drop at s)) (rw e at h.is) ∙ rw (none_there s, ← d.none)) (w given)

  pub origin_unended : r ≡ step.Cut → Ends s given (origin_then strict (drop at s)) (ended.Refused unread.Unended)
  unfolding origin_then
  origin_unended e = record { is = λ t d. then_cut strict t (drop at s) (origin_tag (drop at s)) (rw e at h.is) }

pub ruleset ending = (passed_within, origin_then_lem, origin_none, origin_unended, none_counted)
