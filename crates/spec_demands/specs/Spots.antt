-- Why an answer tells the line of its trouble, or none.
use Prim.Native.Nat.{ℕ, suc, ◌+◌, ◌-◌, ◌≤◌, ◌<◌}
use native.Mathlib.Omega.{arith}
use Rattle.std.specs.Prelude.{Bool, true, false, List, ◌≡◌, refl, leb, ltb, get_or, take, drop}
use Rattle.std.proofs.Math.Logic.{⊎_elim, inl, inr}
use Rattle.std.proofs.Common.{sym, ap, ◌∙◌, get_or-take, get_or-drop, length-take-le, leb-true, ltb-true, ltb-false}
use Rattle.std.proofs.Math.ListN.{length, length-drop}
use Rattle.spec_format.specs.Bytes.{May, absent, is}
use Rattle.spec_format.specs.Impossible.{impossible}
use Rattle.spec_format.specs.Numbers.{read_number}
use Rattle.spec_format.specs.Record.{most}
use Rattle.spec_format.specs.Rooms.{Rooms, read_answer}
use Rattle.spec_format.specs.Strict.{read_by}
use Rattle.spec_format.specs.declared.ReadAnswer.{ReadAnswer}
use Rattle.spec_format.specs.declared.ReadAnswer.TheVariants as read
use Rattle.spec_format.specs.declared.Unread.{Unread}
use Rattle.spec_format.specs.declared.Unread.TheVariants as unread
use Rattle.spec_lines.specs.Lines.{feeds, line_start, spot_of, nowhere}
use Rattle.spec_lines.specs.Stands.{Stands}
use Rattle.spec_lines.specs.Troubles.{searched, troubled, spot_at, read_spot}
use Rattle.spec_loops.specs.Shrinks.{Past}
use Rattle.spec_demands.specs.Answers.{answer_not}
use Rattle.spec_demands.specs.LineLaws.{feed_there, start_low, start_counted, start_unbroken, start_first}
use Rattle.spec_demands.specs.Troubled.{searched_past, troubled_past, past_stands}
use Rattle.spec_demands.specs.What.{lineless, trouble_of, LineTold}

-- ---- the line in which an end of the text begins

module _ (s : List ℕ) (at : ℕ) (t : List ℕ) (l : at ≤ length s) (p : Past 0 (drop at s) t) where
  pub spot_told : (a : ReadAnswer) → trouble_of a (drop at s) ≡ is t → LineTold s at a (spot_of s at t).line (spot_of s at t).offset
  unfolding spot_of
  spot_told a e =
      let q = length (drop at s) - length t in
      let f : q ≤ length (drop at s) = omega arith in
      let n = line_start (take q (drop at s)) in
      let low = start_low s at q f in
      let st = past_stands s at t l p in
      let d = length-drop at s in
      let m : at + n - at ≡ n = omega arith in
      let v = st.from in
      let w = st.within in
      let k : length s - length t - (at + n) ≡ q - n = omega arith in
      let c : suc (feeds (take q (drop at s))) ≡ 1 + feeds (take (at + n - at) (drop at s)) = rw m (omega (arith, start_counted s at q f)) in
      record {
        rest = t;
        trouble = e;
        place = length s - length t;
        stands = st;
        first =
            ⊎_elim (λ z. let y : at + n ≡ at = omega (arith, z) in inl y) (λ z. let y : at < at + n = omega (arith, z.0) in inr (y, z.1)) (start_first s at q f);
        from = omega arith;
        within = omega arith;
        counted = c;
        to = omega arith;
        unbroken = rw k (start_unbroken s at q f);
      }

-- ---- there is one such line

-- where a line starts after the offset, up to the trouble, an LF stands between
broken : (s : List ℕ) (o m p : ℕ) → o < m → m ≤ p → p ≤ length s → get_or s (m - 1) 0 ≡ 10 → feeds (take (p - o) (drop o s)) ≡ 0 → ⊥
broken s o m p a b c e z =
    let i = m - 1 - o in
    let d = length-drop o s in
    let k : o + i ≡ m - 1 = omega arith in
    let g : get_or s (o + i) 0 ≡ 10 = rw k e in
    feed_there (take (p - o) (drop o s)) i (rw (length-take-le (p - o) (drop o s) (omega arith)) (omega arith))
    (get_or-take (p - o) (drop o s) i 0 (omega arith) ∙ get_or-drop o s i 0 ∙ g) z

same_place : (s : List ℕ) (at : ℕ) (t : List ℕ) (p : ℕ) → Stands s at t p → p ≡ length s - length t
same_place s at t p st =
    let e : length t ≡ length s - p = sym (ap length st.is) ∙ length-drop p s in
    let w = st.within in
    omega arith

module _ (s : List ℕ) (at : ℕ) (a : ReadAnswer) (l m o n : ℕ) (x : LineTold s at a l o) (y : LineTold s at a m n) where
  same_rest : x.rest ≡ y.rest
  same_rest = let e : is x.rest ≡ is y.rest = sym x.trouble ∙ y.trouble in cc

  places : x.place ≡ y.place
  places =
      same_place s at x.rest x.place x.stands ∙ (ap (λ (t : List ℕ). length s - length t) same_rest ∙ sym (same_place s at y.rest y.place y.stands))

  not_later : o < n → ⊥
  not_later h =
      ⊎_elim (λ (e : n ≡ at). let f = x.from in omega arith)
      (λ (e : (at < n) × (get_or s (n - 1) 0 ≡ 10)). broken s o n x.place h (rw places y.to) x.stands.within e.1 x.unbroken) y.first

pub one_line : (s : List ℕ) (at : ℕ) (a : ReadAnswer) (l m o n : ℕ) → LineTold s at a l o → LineTold s at a m n → (l ≡ m) × (o ≡ n)
one_line s at a l m o n x y =
    let e : o ≡ n = order o n (not_later s at a l m o n x y) (not_later s at a m l n o y x) in
    (x.counted ∙ (ap (λ (k : ℕ). 1 + feeds (take (k - at) (drop at s))) e ∙ sym y.counted), e)
  where
    order : (o n : ℕ) → (o < n → ⊥) → (n < o → ⊥) → o ≡ n
    order o n f g = go (ltb o n) refl (ltb n o) refl
      where
        go : (b : Bool) → ltb o n ≡ b → (c : Bool) → ltb n o ≡ c → o ≡ n
        go true p c q = absurd (f (ltb-true o n p))
        go false p true q = absurd (g (ltb-true n o q))
        go false p false q =
            let u = ltb-false o n p in
            let v = ltb-false n o q in
            omega arith

-- ---- answers

-- 3 is answered where the place lies past the end
pub placed : (strict : Bool) (s : List ℕ) (at : ℕ) (q : Rooms) → (read_number (read_answer strict s at q) ≡ 3 → ⊥) → at ≤ length s
unfolding read_by
placed strict s at q n = go (leb at (length s)) refl (leb (length s) most) refl
  where
    go : (b : Bool) → leb at (length s) ≡ b → (c : Bool) → leb (length s) most ≡ c → at ≤ length s
    go true e c f = leb-true at (length s) e
    go false e true f = absurd (n (answer_not strict s at q unread.BadPlace (rw (f, e))))
    go false e false f = absurd (n (answer_not strict s at q unread.BadPlace (rw f)))

-- an answer whose number tells a line has a trouble, and that lies in the text
pub record Trouble (a : ReadAnswer) (s : List ℕ) : Type 0 where
  rest : List ℕ
  is_there : trouble_of a s ≡ is rest
  past : Past 0 s rest

unread_trouble : (why : Unread) (s : List ℕ) → lineless (read_number (read.Refused why)) ≡ false → Trouble (read.Refused why) s
unread_trouble why s e = go (troubled why s) refl (there why e)
  where
    there : (w : Unread) → lineless (read_number (read.Refused w)) ≡ false → troubled w s ≡ absent → ⊥
    there unread.AtEnd e f = impossible cc
    there unread.BadPlace e f = impossible cc
    there unread.Unended e f = impossible cc
    there unread.NoLocus e f = impossible cc
    there unread.TwoDefinitions e f = impossible cc
    there unread.NoSlashes e f = impossible cc
    there unread.OtherLength e f = impossible cc
    there unread.BadLetter e f = impossible cc
    there unread.TooDeep e f = impossible cc
    there unread.StrayLetter e f = impossible cc

    go : (m : May (List ℕ)) → troubled why s ≡ m → (troubled why s ≡ absent → ⊥) → Trouble (read.Refused why) s
    go absent f not = absurd (not f)
    go (is t) f not = record { rest = t; is_there = f; past = troubled_past why s t f }

pub trouble_there : (a : ReadAnswer) (s : List ℕ) → lineless (read_number a) ≡ false → Trouble a s
trouble_there (read.Done head place) s e = impossible cc
trouble_there (read.Refused why) s e = unread_trouble why s e
trouble_there (read.Room sizes) s e = record { rest = searched s; is_there = refl; past = searched_past s }

pub spot_of_trouble : (s : List ℕ) (at : ℕ) (a : ReadAnswer) → read_spot s at a ≡ spot_at s at (trouble_of a (drop at s))
spot_of_trouble s at (read.Done head place) = refl
spot_of_trouble s at (read.Refused why) = refl
spot_of_trouble s at (read.Room sizes) = refl

-- THE TWO LAWS that the theorems of Lines.antt cite
pub answer_line : (strict : Bool) (s : List ℕ) (at : ℕ) (q : Rooms) (a : ReadAnswer) → a ≡ read_answer strict s at q → lineless (read_number a) ≡ false →
    LineTold s at a (read_spot s at a).line (read_spot s at a).offset
answer_line strict s at q a e n =
    let t = trouble_there a (drop at s) n in
    let l = placed strict s at q (λ z. let y : read_number a ≡ 3 = ap read_number e ∙ z in impossible cc) in
    let f : read_spot s at a ≡ spot_of s at t.rest = spot_of_trouble s at a ∙ ap (spot_at s at) t.is_there in
    rw f (spot_told s at t.rest l t.past a t.is_there)

pub answer_no_line : (s : List ℕ) (at : ℕ) (a : ReadAnswer) → lineless (read_number a) ≡ true → read_spot s at a ≡ nowhere
answer_no_line s at (read.Done head place) e = refl
answer_no_line s at (read.Room sizes) e = impossible cc
answer_no_line s at (read.Refused unread.AtEnd) e = refl
answer_no_line s at (read.Refused unread.BadPlace) e = refl
answer_no_line s at (read.Refused unread.Unended) e = impossible cc
answer_no_line s at (read.Refused unread.NoLocus) e = impossible cc
answer_no_line s at (read.Refused unread.TwoDefinitions) e = impossible cc
answer_no_line s at (read.Refused unread.NoSlashes) e = impossible cc
answer_no_line s at (read.Refused unread.OtherLength) e = impossible cc
answer_no_line s at (read.Refused unread.BadLetter) e = impossible cc
answer_no_line s at (read.Refused unread.TooDeep) e = impossible cc
answer_no_line s at (read.Refused unread.StrayLetter) e = impossible cc
