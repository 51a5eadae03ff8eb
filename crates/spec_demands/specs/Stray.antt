-- Why the demands of Strict.antt hold: where the strict switch changes the reading, and where it does not.
use Rattle.std.specs.Prelude.{ℕ, Bool, true, false, List, [], ◌∷◌, ◌⊎◌, ◌≡◌, refl, length, drop}
use Rattle.std.proofs.Common.{⊎_elim, inl, inr, sym, subst, ◌∙◌}
use Rattle.std.proofs.Math.Path.{ap}
use Rattle.spec_format.specs.Bytes.{pick, bytes, May, absent, is}
use Rattle.spec_format.specs.Impossible.{impossible}
use Rattle.spec_format.specs.Numbers.{unread_number, read_number}
use Rattle.spec_format.specs.Origin.{Letters, at_slash, at_end, bad_byte, letters}
use Rattle.spec_format.specs.Readers.{Ans, got, no, cut, tag}
use Rattle.spec_format.specs.Record.{Outcome, was_read, not_read, slashes_later, slashes, slashes_at, promised, counted, with_letters, sequence, list_of, read_record, read_at}
use Rattle.spec_format.specs.Rooms.{Rooms, sizes, fits, answer_of, read_answer, rooms_of, rooms_after}
use Rattle.spec_format.specs.Strict.{letters_from, stray_after, stray_in, record_by, read_by}
use Rattle.spec_format.specs.Table.{Table}
use Rattle.spec_format.specs.declared.How.{How}
use Rattle.spec_format.specs.declared.ReadAnswer.{ReadAnswer}
use Rattle.spec_format.specs.declared.ReadAnswer.TheVariants as read
use Rattle.spec_format.specs.declared.Unread.{Unread}
use Rattle.spec_format.specs.declared.Unread.TheVariants as unread
use Rattle.spec_format.specs.declared.WriteAnswer.{WriteAnswer}
use Rattle.spec_strict.specs.Comes.{missing, comes_to, comes_short, Comes, comes, never_stray}
use Rattle.spec_strict.specs.Grounds.{lies_inside, lies_outside, Placing, placing, inside_placed}
use Rattle.spec_strict.specs.Switch.{StrayThere, off, sixteen}
use Rattle.spec_contracts.specs.Reads.{Answered, ReadReported}
use Rattle.spec_contracts.specs.Rounds.{head_of, how_after, Rounds}
use Rattle.spec_contracts.specs.Told.{ReadTold}
use Rattle.spec_contracts.specs.Writes.{WriteAnswered}
use Rattle.spec_contracts.specs.declared.Reading.{Reading}
use Rattle.spec_contracts.specs.declared.Reported.{Reported}
use Rattle.spec_demands.specs.Answers.{answer_number, answer_not}
use Rattle.spec_demands.specs.Demand1.{one_of}
use Rattle.spec_demands.specs.What.{trouble_of}

-- ---- 16 is the stray letter's

stray_number : (why : Unread) → unread_number why ≡ 16 → why ≡ unread.StrayLetter
stray_number unread.AtEnd e = impossible cc
stray_number unread.Unended e = impossible cc
stray_number unread.BadPlace e = impossible cc
stray_number unread.NoLocus e = impossible cc
stray_number unread.TwoDefinitions e = impossible cc
stray_number unread.NoSlashes e = impossible cc
stray_number unread.OtherLength e = impossible cc
stray_number unread.BadLetter e = impossible cc
stray_number unread.TooDeep e = impossible cc
stray_number unread.StrayLetter e = refl

pub number_stray : (strict : Bool) (s : List ℕ) (at : ℕ) (q : Rooms) → read_number (read_answer strict s at q) ≡ 16 → read_by strict s at ≡ not_read unread.StrayLetter
number_stray strict s at q z = go (read_by strict s at) refl
  where
    fitted : (t : Table) (rest : List ℕ) → read_by strict s at ≡ was_read t rest → (b : Bool) → fits (sizes t) q ≡ b → read_by strict s at ≡ not_read unread.StrayLetter
    fitted t rest e true f = let x = answer_number strict s at q t rest true e f in impossible cc
    fitted t rest e false f = let x = answer_number strict s at q t rest false e f in impossible cc

    go : (o : Outcome) → read_by strict s at ≡ o → read_by strict s at ≡ not_read unread.StrayLetter
    go (was_read t rest) e = fitted t rest e (fits (sizes t) q) refl
    go (not_read why) e = e ∙ ap not_read (stray_number why (sym (answer_not strict s at q why e) ∙ z))

never_off : (s : List ℕ) (at : ℕ) → read_by false s at ≡ not_read unread.StrayLetter → ⊥
unfolding read_at
never_off s at e = go (placing s at)
  where
    go : Placing s at → ⊥
    go (lies_inside m k) = never_stray (drop at s) (sym (inside_placed read_record s at m k) ∙ (sym (off s at) ∙ e))
    go (lies_outside why n k) = let f : not_read why ≡ not_read unread.StrayLetter = sym (k read_record) ∙ (sym (off s at) ∙ e) in n cc

numbers_before : (a : ReadAnswer) → (read_number a ≡ 16 → ⊥) → one_of (0 ∷ 1 ∷ 2 ∷ 3 ∷ 4 ∷ 5 ∷ 6 ∷ 7 ∷ 8 ∷ 9 ∷ 14 ∷ []) (read_number a) ≡ true
numbers_before (read.Done head place) n = refl
numbers_before (read.Room sizes) n = refl
numbers_before (read.Refused unread.AtEnd) n = refl
numbers_before (read.Refused unread.Unended) n = refl
numbers_before (read.Refused unread.BadPlace) n = refl
numbers_before (read.Refused unread.NoLocus) n = refl
numbers_before (read.Refused unread.TwoDefinitions) n = refl
numbers_before (read.Refused unread.NoSlashes) n = refl
numbers_before (read.Refused unread.OtherLength) n = refl
numbers_before (read.Refused unread.BadLetter) n = refl
numbers_before (read.Refused unread.TooDeep) n = refl
numbers_before (read.Refused unread.StrayLetter) n = absurd (n refl)

pub off_numbers : (s : List ℕ) (at : ℕ) (q : Rooms) → one_of (0 ∷ 1 ∷ 2 ∷ 3 ∷ 4 ∷ 5 ∷ 6 ∷ 7 ∷ 8 ∷ 9 ∷ 14 ∷ []) (read_number (read_answer false s at q)) ≡ true
off_numbers s at q = numbers_before (read_answer false s at q) (λ z. never_off s at (number_stray false s at q z))

stray_trouble : (a : ReadAnswer) (s : List ℕ) → read_number a ≡ 16 → trouble_of a s ≡ is (list_of (stray_in s))
stray_trouble (read.Done head place) s n = impossible cc
stray_trouble (read.Room sizes) s n = impossible cc
stray_trouble (read.Refused why) s n = rw (stray_number why n)

-- its trouble is that letter
pub stray_rest : (a : ReadAnswer) (s z rest : List ℕ) → read_number a ≡ 16 → stray_in s ≡ is z → trouble_of a s ≡ is rest → stray_in s ≡ is rest
stray_rest a s z rest n h t = h ∙ (sym (ap (λ (o : May (List ℕ)). is (list_of o)) h) ∙ (sym (stray_trouble a s n) ∙ t))

-- ---- either 16, or the reading without the switch

on_or_off : (s : List ℕ) (at : ℕ) → (read_by true s at ≡ not_read unread.StrayLetter) ⊎ (read_by true s at ≡ read_by false s at)
unfolding read_by record_by
on_or_off s at = go (placing s at)
  where
    inside : (o : May (List ℕ)) → stray_in (drop at s) ≡ o → (record_by true (drop at s) ≡ not_read unread.StrayLetter) ⊎ (record_by true (drop at s) ≡ record_by false (drop at s))
    inside absent e = inr (rw e)
    inside (is z) e = inl (rw e)

    go : Placing s at → (read_by true s at ≡ not_read unread.StrayLetter) ⊎ (read_by true s at ≡ read_by false s at)
    go (lies_inside m k) =
        let on = inside_placed (record_by true) s at m k in
        let plain = inside_placed (record_by false) s at m k in
        ⊎_elim (λ e. inl (on ∙ e)) (λ e. inr (on ∙ (e ∙ sym plain))) (inside (stray_in (drop at s)) refl)
    go (lies_outside why n k) = inr (k (record_by true) ∙ sym (k (record_by false)))

pub but_sixteen : (s : List ℕ) (at : ℕ) (q : Rooms) → (read_number (read_answer true s at q) ≡ 16 → ⊥) → read_by true s at ≡ read_by false s at
but_sixteen s at q n = ⊎_elim (λ e. absurd (n (answer_not true s at q unread.StrayLetter e))) (λ e. e) (on_or_off s at)

-- ---- what is answered without the switch where a stray letter stands

late : Outcome → Bool
late (was_read t rest) = true
late (not_read why) = one_of (2 ∷ 7 ∷ 8 ∷ 9 ∷ []) (unread_number why)

pick_late : (b : Bool) (x y : Outcome) → late x ≡ true → late y ≡ true → late (pick b x y) ≡ true
pick_late true x y h k = h
pick_late false x y h k = k

slashes_late : (t : Table) (s : List ℕ) (o : Ans Unit) → late (slashes t s o) ≡ true
unfolding late
slashes_late t s (got u r) = refl
slashes_late t s no = pick_late (slashes_later s) (not_read unread.NoSlashes) (not_read unread.Unended) refl refl
slashes_late t s cut = refl

sequence_late : (t : Table) (o : Letters) → late (sequence t o) ≡ true
unfolding late
sequence_late t (at_slash l r) =
    pick_late (promised t.locus.length (length l)) (slashes_at (with_letters t l) r) (not_read unread.OtherLength) (slashes_late (with_letters t l) r (tag (bytes "//") r)) refl
sequence_late t (at_end l) = pick_late (counted t.locus.length (length l)) (was_read (with_letters t l) []) (not_read unread.Unended) refl refl
sequence_late t (bad_byte r) = refl

record_late : (s z : List ℕ) → stray_in s ≡ is z → late (read_record s) ≡ true
record_late s z h = go (comes s)
  where
    short : (p : Ans (List ℕ)) → missing p ≡ true → stray_after p ≡ is z → ⊥
    short (got u y) e f = impossible cc
    short no e f = impossible cc
    short cut e f = impossible cc

    go : Comes s → late (read_record s) ≡ true
    go (comes_to u y t p n k) = rw k (sequence_late t (letters y))
    go (comes_short p n) = absurd (short (letters_from s) p h)

there_late : (s : List ℕ) (at : ℕ) → StrayThere s at → late (read_by false s at) ≡ true
unfolding read_at
there_late s at k = rw (off s at ∙ inside_placed read_record s at k.small k.inside) (record_late (drop at s) k.from k.stands)

late_number : (s : List ℕ) (at : ℕ) (q : Rooms) → StrayThere s at → one_of (0 ∷ 2 ∷ 6 ∷ 7 ∷ 8 ∷ 9 ∷ []) (read_number (read_answer false s at q)) ≡ true
unfolding late
late_number s at q k = go (read_by false s at) refl
  where
    fitted : (t : Table) (rest : List ℕ) → read_by false s at ≡ was_read t rest → (b : Bool) → fits (sizes t) q ≡ b →
        one_of (0 ∷ 2 ∷ 6 ∷ 7 ∷ 8 ∷ 9 ∷ []) (read_number (read_answer false s at q)) ≡ true
    fitted t rest e true f = rw (answer_number false s at q t rest true e f)
    fitted t rest e false f = rw (answer_number false s at q t rest false e f)

    more : (why : Unread) → one_of (2 ∷ 7 ∷ 8 ∷ 9 ∷ []) (unread_number why) ≡ true → one_of (0 ∷ 2 ∷ 6 ∷ 7 ∷ 8 ∷ 9 ∷ []) (unread_number why) ≡ true
    more unread.AtEnd e = impossible cc
    more unread.Unended e = refl
    more unread.BadPlace e = impossible cc
    more unread.NoLocus e = impossible cc
    more unread.TwoDefinitions e = impossible cc
    more unread.NoSlashes e = refl
    more unread.OtherLength e = refl
    more unread.BadLetter e = refl
    more unread.TooDeep e = impossible cc
    more unread.StrayLetter e = impossible cc

    go : (o : Outcome) → read_by false s at ≡ o → one_of (0 ∷ 2 ∷ 6 ∷ 7 ∷ 8 ∷ 9 ∷ []) (read_number (read_answer false s at q)) ≡ true
    go (was_read t rest) e = fitted t rest e (fits (sizes t) q) refl
    go (not_read why) e = rw (answer_not false s at q why e) (more why (rw e at (there_late s at k)))

pub but_late : (s : List ℕ) (at : ℕ) (q : Rooms) → one_of (0 ∷ 2 ∷ 6 ∷ 7 ∷ 8 ∷ 9 ∷ []) (read_number (read_answer false s at q)) ≡ false → read_by true s at ≡ read_by false s at
but_late s at q h = ⊎_elim (λ e. let x = late_number s at q ((sixteen s at).0 e) in impossible cc) (λ e. e) (on_or_off s at)

-- ---- where the reading is the same a strict call keeps the contract of a call with the switch off

module _ (s : List ℕ) (at : ℕ) (same : read_by true s at ≡ read_by false s at) where
  answer_off : (q : Rooms) → read_answer true s at q ≡ read_answer false s at q
  unfolding read_answer
  answer_off q = ap (answer_of (length s) q) same

  rooms_off : (q : Rooms) → rooms_after true s at q ≡ rooms_after false s at q
  unfolding rooms_after
  rooms_off q = ap (rooms_of q) same

  answered_off : (old new : Rooms) (a : ReadAnswer) → Answered true s at old new a → Answered false s at old new a
  answered_off old new a call =
      let e = rooms_off old in
      record {
        is = call.is ∙ answer_off old;
        texts = call.texts ∙ ap (λ (x : Rooms). x.texts) e;
        references = call.references ∙ ap (λ (x : Rooms). x.references) e;
        comments = call.comments ∙ ap (λ (x : Rooms). x.comments) e;
        features = call.features ∙ ap (λ (x : Rooms). x.features) e;
        qualifiers = call.qualifiers ∙ ap (λ (x : Rooms). x.qualifiers) e;
        locations = call.locations ∙ ap (λ (x : Rooms). x.locations) e;
        letters = call.letters ∙ ap (λ (x : Rooms). x.letters) e;
      }

  pub reported_off : (old new : Rooms) (r : Reported) → ReadReported true s at old new r → ReadReported false s at old new r
  reported_off old new r call = record { answered = answered_off old new r.answer call.answered; told = call.told }

  pub told_off : (old new : Rooms) (told : Reading) → ReadTold true s at old new told → ReadTold false s at old new told
  told_off old new told call = record { answer = call.answer; answered = reported_off old new call.answer call.answered; is = call.is }

  pub rounds_off : (old : Rooms) (how : How) (t rf cm q lc l before after : List ℕ) (r : Reported) (w : WriteAnswer) → Rounds true s at old how t rf cm q lc l before after r w →
      Rounds false s at old how t rf cm q lc l before after r w
  rounds_off old how t rf cm q lc l before after r w call =
      let e = rooms_off old in
      record {
        is = call.is ∙ answer_off old;
        told = call.told;
        texts_are = call.texts_are ∙ ap (λ (x : Rooms). x.texts) e;
        references_are = call.references_are ∙ ap (λ (x : Rooms). x.references) e;
        comments_are = call.comments_are ∙ ap (λ (x : Rooms). x.comments) e;
        qualifiers_are = call.qualifiers_are ∙ ap (λ (x : Rooms). x.qualifiers) e;
        locations_are = call.locations_are ∙ ap (λ (x : Rooms). x.locations) e;
        letters_are = call.letters_are ∙ ap (λ (x : Rooms). x.letters) e;
        wrote = subst (λ (x : Rooms). WriteAnswered (how_after r.answer how) x (head_of r.answer) before after w) e call.wrote;
      }
