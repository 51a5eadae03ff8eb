-- The laws of the functions: whether LOCUS stands there, what a line makes of "the answer of the whole is the answer from here", and how far it is to the end.
use Prim.Native.Nat.{ℕ, suc, ◌-◌, ◌≤◌, ◌<◌}
use native.Mathlib.Omega.{arith}
use mathlib.Core.Bool.{Bool, true, false}
use mathlib.Core.Path.{◌≡◌, refl, sym, ap, subst, ◌∙◌}
use mathlib.Core.List.{List}
use lib.ListN.{length, drop}
use Rattle.spec_format.specs.Bytes.{bytes, pick}
use Rattle.spec_format.specs.Utf8.{utf8}
use Rattle.spec_format.specs.Readers.{Ans, got, no, cut, mapped, tag, line, utf8_of, more, stop, end}
use Rattle.spec_format.specs.Locus.{skipping, preamble_turn, preamble}
use Rattle.spec_loops.specs.Loops.{end_stop, end_no, end_cut}
use Rattle.spec_loops.proofs.Loops.{end_more}
use Rattle.spec_loops.proofs.Shrinks.{preamble_small}
use Rattle.scan_bytes.specs.Places.{part}
use Rattle.scan_bytes.specs.Views.{Stepped}
use Rattle.scan_bytes.specs.Sequence.{line_places, line_is}
use Rattle.scan_bytes.specs.declared.Step.{Step}
use Rattle.scan_bytes.specs.declared.Step.TheVariants as step
use Rattle.scan_bytes.specs.declared.Line.{Line}
use Rattle.scan_bytes.specs.declared.Line.TheVariants as lines
use Rattle.scan_lines.specs.Reached.{after_line}
use mathlib.Core.Bool.{true≢false}
use Rattle.read_preamble.specs.declared.Turn.{Turn}
use Rattle.read_preamble.specs.Skips.{is_got, stopped, Before, Gone, Read, Passed}
use Rattle.spec_format.specs.Impossible.{impossible}

-- ---- whether LOCUS stands there

module _ (s : List ℕ) (at : ℕ) (o : Ans Unit) (r : Step) (h : Stepped s at o r) where
  pub stands : (n : ℕ) → r ≡ step.Got n → true ≡ is_got o
  stands n e = rw (← h.is, e)

  pub stands_not : r ≡ step.No → false ≡ is_got o
  stands_not e = rw (← h.is, e)

  pub stands_cut : r ≡ step.Cut → false ≡ is_got o
  stands_cut e = rw (← h.is, e)

pub ruleset standing = (stands, stands_not, stands_cut)

-- ---- where the reader stands

pub not_there : (s : List ℕ) (o : Ans Unit) → false ≡ is_got o → skipping s o ≡ mapped more (utf8_of (line s))
not_there s (got u r) e = impossible cc
not_there s no e = refl
not_there s cut e = refl

pub there : (s : List ℕ) (o : Ans Unit) → true ≡ is_got o → skipping s o ≡ got stop s
there s (got u r) e = refl
there s no e = impossible cc
there s cut e = impossible cc

module _ (s : List ℕ) (at p : ℕ) (r : Step) (t : Turn) (e : t ≡ stopped r) where
  no_more : t.more ≡ true → ⊥
  no_more q = true≢false (sym q ∙ ap (λ (x : Turn). x.more) e)

  -- at an answer
  gone_done : Stepped s at (end preamble_turn (drop at s)) r → Gone s at p t
  gone_done h = record {
    before = λ q. absurd (no_more q);
    done = λ q. subst (λ (x : Step). Stepped s at (end preamble_turn (drop at s)) x) (sym (ap (λ (x : Turn). x.answer) e)) h;
  }

module _ (s : List ℕ) (at : ℕ) (b : Bool) (f : b ≡ is_got (tag (bytes "LOCUS") (drop at s))) (w : at ≤ length s) where
  pub turn_there : (t : Turn) → b ≡ true → t ≡ stopped (step.Got at) → Gone s at at t
  turn_there t y e =
      gone_done s at at (step.Got at) t e
      (record { is = sym (end_stop preamble_turn (drop at s) (drop at s) (there (drop at s) (tag (bytes "LOCUS") (drop at s)) (sym y ∙ f))); place = (omega arith, w) })

  pub turn_before : b ≡ false → Gone s at at (record { more = true; answer = step.No })
  turn_before y = record { before = λ _. record { same = refl; stands_not = sym y ∙ f; from = omega arith; within = w }; done = λ q. absurd (true≢false q) }

pub ruleset turning = (turn_there, turn_before)

-- ---- one line

stepped_from : (s : List ℕ) (at n : ℕ) (o : Ans Unit) (r : Step) → at ≤ n → Stepped s n o r → Stepped s at o r
stepped_from s at n o (step.Got k) h w = let p : (n ≤ k) × (k ≤ length s) = w.place in record { is = w.is; place = (omega arith, p.1) }
stepped_from s at n o step.No h w = record { is = w.is; place = tt }
stepped_from s at n o step.Cut h w = record { is = w.is; place = tt }

-- where all lines from `at` to n were passed, what is said from n on is said from `at` on
gone_from : (s : List ℕ) (at n p : ℕ) (t : Turn) → end preamble_turn (drop at s) ≡ end preamble_turn (drop n s) → at ≤ n → Gone s n p t → Gone s at p t
gone_from s at n p t e h g = record {
  before = λ q. let b : Before s n p = g.before q in record { same = e ∙ b.same; stands_not = b.stands_not; from = omega arith; within = b.within };
  done = λ q. stepped_from s at n (end preamble_turn (drop at s)) t.answer h (subst (λ (o : Ans Unit). Stepped s n o t.answer) (sym e) (g.done q));
}

module _ (s : List ℕ) (at : ℕ) (r : Line) (h : Read s at r) where
  turn_is : preamble_turn (drop at s) ≡ mapped more (utf8_of (line (drop at s)))
  turn_is = not_there (drop at s) (tag (bytes "LOCUS") (drop at s)) h.stands_not

  pub line_ahead : (e n : ℕ) → r ≡ lines.Got e n → at ≤ e
  line_ahead e n q = (line_places h.is q).0

  pub line_inside : (e n : ℕ) → r ≡ lines.Got e n → e ≤ length s
  line_inside e n q = let p : (at ≤ e) × (e < n) × (n ≤ length s) = line_places h.is q in omega arith

  pub next_inside : (e n : ℕ) → r ≡ lines.Got e n → n ≤ length s
  next_inside e n q = (line_places h.is q).2

  pub passed_got : (e n : ℕ) (b : Bool) (t : Turn) → r ≡ lines.Got e n → b ≡ utf8 (part at e s) → b ≡ true → Gone s n n t → Passed s at r t
  passed_got e n b t q f y g =
      let p : (at ≤ e) × (e < n) × (n ≤ length s) = line_places h.is q in
      let a : after_line at r ≡ n = rw q in
      let l : line (drop at s) ≡ got (part at e s) (drop n s) = line_is h.is q in
      let k : end preamble_turn (drop at s) ≡ end preamble_turn (drop n s) = end_more preamble_turn preamble_small (drop at s) (part at e s) (drop n s) (turn_is ∙ rw (l, ← f, y)) in
      record { gone = rw a (gone_from s at n n t k (omega arith) g); further = λ _. rw a (omega arith) }

  -- no further than the line
  passed_done : (o : Step) (t : Turn) → t ≡ stopped o → Stepped s at (end preamble_turn (drop at s)) o → Passed s at r t
  passed_done o t e w = record { gone = gone_done s at (after_line at r) o t e w; further = λ q. absurd (no_more s at at o t e q) }

  pub passed_bad : (e n : ℕ) (b : Bool) (t : Turn) → r ≡ lines.Got e n → b ≡ utf8 (part at e s) → b ≡ false → t ≡ stopped step.No → Passed s at r t
  passed_bad e n b t q f y g =
      let l : line (drop at s) ≡ got (part at e s) (drop n s) = line_is h.is q in
      passed_done step.No t g (record { is = sym (end_no preamble_turn (drop at s) (turn_is ∙ rw (l, ← f, y))); place = tt })

  pub passed_no : (t : Turn) → r ≡ lines.No → t ≡ stopped step.No → Passed s at r t
  passed_no t q g = passed_done step.No t g (record { is = sym (end_no preamble_turn (drop at s) (turn_is ∙ rw (← h.is.is, q))); place = tt })

  pub passed_cut : (t : Turn) → r ≡ lines.Cut → t ≡ stopped step.Cut → Passed s at r t
  passed_cut t q g = passed_done step.Cut t g (record { is = sym (end_cut preamble_turn (drop at s) (turn_is ∙ rw (← h.is.is, q))); place = tt })

  pub after_inside : after_line at r ≤ length s
  after_inside = go r refl
    where
      go : (x : Line) → r ≡ x → after_line at x ≤ length s
      go (lines.Got e n) q = (line_places h.is q).2
      go lines.No q = h.within
      go lines.Cut q = h.within

pub ruleset passing_lines = (line_ahead, line_inside, next_inside, passed_got, passed_bad, passed_no, passed_cut)

-- ---- the loop

-- another line was passed
pub gone_on : (s : List ℕ) (at p : ℕ) (t u : Turn) (r : Line) → Gone s at p t → t.more ≡ true → Passed s p r u → Gone s at (after_line p r) u
gone_on s at p t u r g y w = let b : Before s at p = g.before y in gone_from s at p (after_line p r) u b.same b.from w.gone

pub gone_answer : (s : List ℕ) (at p : ℕ) (t : Turn) → Gone s at p t → t.more ≡ false → Stepped s at (preamble (drop at s)) t.answer
unfolding preamble
gone_answer s at p t g y = g.done y

-- how far it is to the end, and nothing more where the answer is clear
abbrev pub left : List ℕ → ℕ → Turn → ℕ
left s p t = pick t.more (suc (length s - p)) 0

pub left_less : (s : List ℕ) (at p : ℕ) (t u : Turn) (r : Line) → Gone s at p t → t.more ≡ true → Passed s p r u → left s (after_line p r) u < left s p t
left_less s at p t u r g y w = rw y (go u.more refl)
  where
    b : Before s at p
    b = g.before y

    go : (x : Bool) → u.more ≡ x → pick u.more (suc (length s - after_line p r)) 0 < suc (length s - p)
    go true e =
        let f : p < after_line p r = w.further e in
        let i : p ≤ length s = b.within in
        let k : Before s p (after_line p r) = w.gone.before e in
        let j : after_line p r ≤ length s = k.within in
        rw e (omega arith)
    go false e = rw e (omega arith)
