-- The laws of the search: where the last line of a text begins, the spot of a place, and what a turn, and each way out, makes of where the search stands.
use Prim.Native.Nat.{ℕ, zero, suc, ◌+◌, ◌-◌, ◌≤◌, ◌<◌}
use native.Mathlib.Omega.{arith}
use mathlib.Core.Bool.{Bool, true, false}
use mathlib.Core.Path.{◌≡◌, refl, sym, ap, subst, ◌∙◌}
use mathlib.Core.List.{List, [], ◌∷◌, ◌++◌}
use lib.ListN.{length, get_or, drop, length-drop}
use lib.Dec.{eqb, ltb}
use Rattle.spec_format.specs.Bytes.{pick}
use Rattle.spec_lines.specs.Lines.{feeds, line_start, before, spot_of}
use Rattle.spec_lines.specs.declared.Spot.{Spot}
use Rattle.scan_bytes.specs.Places.{part}
use Rattle.scan_bytes.specs.Parts.{length_part, part_none, part_snoc, part_append}
use Rattle.scan_lines.specs.Reached.{Fed, ended, feed_more, one_of}
use Rattle.scan_lines.proofs.Counts.{feeds_append, ended_rest, ended_more}
use mathlib.Core.Bool.{true≢false}
use Rattle.scan_spot.specs.declared.Sought.{Sought}
use Rattle.scan_spot.specs.Search.{first_line, Begun, Standing, Arrived, Turned}
use borrow.Author.Tests.{ltb-true, ltb-false, ne_eqb}

-- ---- where the last line begins

no_start : (a : List ℕ) → feeds a ≡ 0 → line_start a ≡ 0
unfolding feeds line_start
no_start [] h = refl
no_start (b ∷ a) h = go (no_start a) (eqb b 10) refl
  where
    go : (feeds a ≡ 0 → line_start a ≡ 0) → (x : Bool) → eqb b 10 ≡ x → line_start (b ∷ a) ≡ 0
    go ih true e = let g = rw (feeds, e) at h in absurd (omega arith)
    go ih false e = let g = rw (feeds, e) at h in rw (line_start, ih g, e)

-- bytes without LF do not move it
pub start_on : (a b : List ℕ) → feeds b ≡ 0 → line_start (a ++ b) ≡ line_start a
unfolding line_start
start_on [] b h = no_start b h
start_on (x ∷ a) b h = let ih = start_on a b h in rw (line_start, ih)

-- after an LF it is the end
pub start_after : (a : List ℕ) → line_start (a ++ (10 ∷ [])) ≡ suc (length a)
unfolding line_start
start_after [] = refl
start_after (x ∷ a) = let ih = start_after a in rw (line_start, ih)

pub feeds_few : (a : List ℕ) → feeds a ≤ length a
unfolding feeds
feeds_few [] = omega arith
feeds_few (b ∷ a) = go (feeds_few a) (eqb b 10) refl
  where
    go : feeds a ≤ length a → (x : Bool) → eqb b 10 ≡ x → feeds (b ∷ a) ≤ suc (length a)
    go ih true e = rw (feeds, e) (omega arith)
    go ih false e = rw (feeds, e) (omega arith)

feeds_lf : feeds (10 ∷ []) ≡ 1
unfolding feeds
feeds_lf = refl

feeds_other : (b : ℕ) → (b ≡ 10 → ⊥) → feeds (b ∷ []) ≡ 0
unfolding feeds
feeds_other b h = rw (feeds, ne_eqb b 10 h)

none_at_all : (feeds [] ≡ 0) × (line_start [] ≡ 0)
unfolding feeds line_start
none_at_all = (refl, refl)

-- ---- the spot of a place

spot_eq : (x : Spot) (a b : ℕ) → x.line ≡ a → x.offset ≡ b → x ≡ record { line = a; offset = b }
spot_eq x a b e f = ap (λ (n : ℕ). record { line = n; offset = x.offset }) e ∙ ap (λ (n : ℕ). record { line = a; offset = n }) f

pub spot_is : (s : List ℕ) (at k : ℕ) → at ≤ k → k ≤ length s → spot_of s at (drop k s) ≡ record { line = suc (feeds (part at k s)); offset = at + line_start (part at k s) }
unfolding spot_of
spot_is s at k h l =
    let e : length (drop at s) - length (drop k s) ≡ k - at = rw (length-drop at s, length-drop k s) (omega arith) in
    rw e

-- the line of a place where no LF stands from the line's beginning to it
found : (s : List ℕ) (at p place : ℕ) (x : Spot) → Begun s at p x → p ≤ place → place ≤ length s → feeds (part p place s) ≡ 0 → x ≡ spot_of s at (drop place s)
found s at p place x b h l z =
    let f = b.from in
    let a : part at place s ≡ part at p s ++ part p place s = part_append s at place p f h in
    let n : feeds (part at place s) ≡ feeds (part at p s) = ap feeds a ∙ feeds_append (part at p s) (part p place s) ∙ rw z (omega arith) in
    let m : at + line_start (part at place s) ≡ p = let k = ap line_start a ∙ start_on (part at p s) (part p place s) z ∙ b.begins in omega arith in
    spot_eq x (suc (feeds (part at p s))) p b.line_is b.offset_is ∙ sym (spot_is s at place (omega arith) l ∙ rw (n, m))

-- ---- the first line

none_of : (n : ℕ) → one_of n ≡ 0 → n ≡ 0
none_of zero e = refl
none_of (suc n) e = absurd (omega arith)

first_begun : (s : List ℕ) (at : ℕ) → Begun s at at (record { line = 1; offset = at })
first_begun s at =
    let z = part_none s at at (omega arith) in
    record { line_is = rw (z, none_at_all.0); offset_is = refl; begins = rw (z, none_at_all.1) (omega arith); from = omega arith }

-- a line that was reached is passed, if it begins before the place, and else found
standing : (s : List ℕ) (at p place : ℕ) (x : Spot) → Begun s at p x → p ≤ place → place ≤ length s → Standing s at place p (record { more = ltb p place; spot = x })
standing s at p place x b h l = record { on = λ q. b; before = λ q. ltb-true p place q; done = λ q. found s at p place x b h l (rw (part_none s p place (ltb-false p place q), none_at_all.0)) }

pub standing_first : (s : List ℕ) (at place : ℕ) → at ≤ place → place ≤ length s → Standing s at place at (first_line at place)
standing_first s at place h l = standing s at at place (record { line = 1; offset = at }) (first_begun s at) h l

-- ---- a turn

module _ (s : List ℕ) (place : ℕ) (x : Spot) (next : ℕ) (a : Arrived s place x next) where
  from_before : x.offset < next
  from_before = let w = a.within in let b = a.before in a.fed.further (omega arith)

  pub next_some : 1 ≤ next
  next_some = let h = from_before in omega arith

  -- no LF stands from the line's beginning to the place
  stays : feeds (part x.offset place s) ≡ 0 → Turned s place x next (record { more = false; spot = x })
  stays z = record { go = λ at b. record { on = λ q. absurd (true≢false (sym q)); before = λ q. absurd (true≢false (sym q)); done = λ q. let w = a.before in found s at x.offset place x b (omega arith) a.within z } }

  -- the line ends behind the place
  pub turn_past : place < next → Turned s place x next (record { more = false; spot = x })
  turn_past l =
      let w = a.before in
      let i : ended s place ≡ ended s x.offset = a.fed.inside place (omega arith) l in
      let m = ended_more s x.offset place (omega arith) in
      stays (omega arith)

  last_byte : (at : ℕ) → at ≤ x.offset → next ≤ place → part at next s ≡ part at (next - 1) s ++ (get_or s (next - 1) 0 ∷ [])
  last_byte at f l =
      let h = from_before in
      let w = a.within in
      let e : next ≡ next - 1 + 1 = omega arith in
      ap (λ (n : ℕ). part at n s) e ∙ part_snoc s at (next - 1) (omega arith) (omega arith)

  -- the text ends with the line, at the place
  pub turn_none : next ≤ place → (get_or s (next - 1) 0 ≡ 10 → ⊥) → Turned s place x next (record { more = false; spot = x })
  turn_none l n =
      let h = from_before in
      let p = x.offset in
      let i : ended s (next - 1) ≡ ended s p = a.fed.inside (next - 1) (omega arith) (omega arith) in
      let j = ended_more s p (next - 1) (omega arith) in
      let k = ended_more s p next (omega arith) in
      let y : feeds (part p next s) ≡ feeds (part p (next - 1) s) + feeds (get_or s (next - 1) 0 ∷ []) = ap feeds (last_byte p (omega arith) l) ∙ feeds_append (part p (next - 1) s) (get_or s (next - 1) 0 ∷ []) in
      let u : feeds (get_or s (next - 1) 0 ∷ []) ≡ 0 = feeds_other (get_or s (next - 1) 0) n in
      let c : ended s next ≡ ended s p + feed_more s p = a.fed.counted in
      let o : feed_more s p ≡ 0 = omega arith in
      let d : feeds (drop p s) ≡ 0 = none_of (feeds (drop p s)) o in
      let v = ended_rest s p in
      let r = ended_rest s place in
      let m = ended_more s p place (omega arith) in
      stays (omega arith)

  -- another line begins at the place or before it
  pub turn_on : next ≤ place → get_or s (next - 1) 0 ≡ 10 → Turned s place x next (record { more = ltb next place; spot = record { line = x.line + 1; offset = next } })
  turn_on l n = record { go = λ at b. standing s at next place (record { line = x.line + 1; offset = next }) (begun at b) l a.within }
    where
      begun : (at : ℕ) → Begun s at x.offset x → Begun s at next (record { line = x.line + 1; offset = next })
      begun at b =
          let h = from_before in
          let w = a.within in
          let f : at ≤ x.offset = b.from in
          let e : part at next s ≡ part at (next - 1) s ++ (10 ∷ []) = last_byte at f l ∙ rw n in
          let i : ended s (next - 1) ≡ ended s x.offset = a.fed.inside (next - 1) (omega arith) (omega arith) in
          let j = ended_more s at (next - 1) (omega arith) in
          let k = ended_more s at x.offset f in
          let y : feeds (part at next s) ≡ feeds (part at (next - 1) s) + feeds (10 ∷ []) = ap feeds e ∙ feeds_append (part at (next - 1) s) (10 ∷ []) in
          let u = feeds_lf in
          let v = b.line_is in
          let g : line_start (part at next s) ≡ suc (length (part at (next - 1) s)) = ap line_start e ∙ start_after (part at (next - 1) s) in
          let m = length_part s at (next - 1) (omega arith) (omega arith) in
          record { line_is = omega arith; offset_is = refl; begins = omega arith; from = omega arith }

pub ruleset turning = (next_some, turn_past, turn_none, turn_on)

-- ---- the loop

-- the reader went past another line
pub arrived : (s : List ℕ) (at place p next : ℕ) (t : Sought) → Standing s at place p t → t.more ≡ true → place ≤ length s → Fed s p next → Arrived s place t.spot next
arrived s at place p next t h y w d =
    let b : Begun s at p t.spot = h.on y in
    let e = b.offset_is in
    let f = b.from in
    let l = b.line_is in
    let k = feeds_few (part at p s) in
    let i = h.before y in
    let m = length_part s at p f (omega arith) in
    record { fed = rw e d; before = rw e i; within = w; small = omega arith }

pub standing_on : (s : List ℕ) (at place p next : ℕ) (t u : Sought) → Standing s at place p t → t.more ≡ true → Turned s place t.spot next u → Standing s at place next u
standing_on s at place p next t u h y r = let b : Begun s at p t.spot = h.on y in r.go at (subst (λ (k : ℕ). Begun s at k t.spot) (sym b.offset_is) b)

-- how far it is to the end, and nothing more where the line is found
abbrev pub left : List ℕ → ℕ → Sought → ℕ
left s p t = pick t.more (suc (length s - p)) 0

pub left_less : (s : List ℕ) (at place p next : ℕ) (t u : Sought) → Standing s at place p t → t.more ≡ true → place ≤ length s → Fed s p next → Standing s at place next u → left s next u < left s p t
left_less s at place p next t u h y w d g = rw y (go u.more refl)
  where
    go : (b : Bool) → u.more ≡ b → pick u.more (suc (length s - next)) 0 < suc (length s - p)
    go true e =
        let i = h.before y in
        let j = g.before e in
        let f : p < next = d.further (omega arith) in
        rw e (omega arith)
    go false e = rw e (omega arith)
