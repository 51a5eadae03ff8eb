-- How long a text can become over lines: linear in its length.
use Rattle.std.specs.Prelude.{refl, ℕ, suc, zero, ◌+◌, ◌*◌, ◌≤◌, Bool, true, false, None, List, [], ◌∷◌, ◌++◌, ltb, eqb, length, take}
use Rattle.std.proofs.Common.{arith, length-append, length-take, length-drop}
use Rattle.std.proofs.lemmas.List.{length-replicate}
use Rattle.spec_format.specs.Bytes.{spaces}
use Rattle.spec_format.specs.Wrap.{line_text, line_rest, fill, closing, lines_after, wrapped, wrap_text}
use Rattle.write_wrap_text.specs.Line.{escape, shown, closed, cases, spot, placed, breaks, line_is, rest_is}
use Rattle.write_wrap_text.specs.Loop.{closing_is}

shown_length : (q : Bool) (b : ℕ) → length (shown q b) ≤ 2
shown_length false b = omega arith
shown_length true b = cases (eqb b 34) (λ e. rw e (omega arith)) (λ e. rw e (omega arith))

escape_length : (q : Bool) (t : List ℕ) → length (escape q t) ≤ 2 * length t
escape_length q [] = omega arith
escape_length q (b ∷ bs) = omega (arith, length-append (shown q b) (escape q bs), shown_length q b, escape_length q bs)

line_length : (q : Bool) (W used : ℕ) (t : List ℕ) → length (line_text (fill q W used t)) + 2 * length (line_rest (fill q W used t)) ≤ 2 * length t
line_length q W used t =
    let r = placed 0 None (spot q W used t) in
    let b = breaks q W used t r refl in
    rw (line_is b, rest_is b) (omega (arith, escape_length q (take r.end t), length-take r.end t, length-drop r.next t, b.order, b.inside))

closed_length : (q free : Bool) (indent : ℕ) → indent ≤ 21 → length (closed q free indent) ≤ 24
closed_length false free indent h = omega arith
closed_length true true indent h = omega arith
closed_length true false indent h =
    omega (arith, length-append (10 ∷ [] ++ spaces indent) (34 ∷ 10 ∷ []), length-append {A = ℕ} (10 ∷ []) (spaces indent), length-replicate {A = ℕ} indent 32)

closing_length : (q : Bool) (W indent used : ℕ) → indent ≤ 21 → length (closing q W indent used) ≤ 24
closing_length q W indent used h = rw (closing_is q W indent used) (closed_length q (ltb used W) indent h)

after_length : (f : ℕ) (q : Bool) (W indent used : ℕ) (t : List ℕ) → indent ≤ 21 → length (lines_after f q W indent used t) ≤ 2 * length t + 22 * f + 24
unfolding lines_after
after_length zero q W indent used t h = omega (arith, closing_length q W indent used h)
after_length (suc f) q W indent used [] h = omega (arith, closing_length q W indent used h)
after_length (suc f) q W indent used (b ∷ t) h =
    let x = line_text (fill q W indent (b ∷ t)) in
    let r = line_rest (fill q W indent (b ∷ t)) in
    omega (
      arith,
      length-append (10 ∷ [] ++ spaces indent ++ x) (lines_after f q W indent (indent + length x) r),
      length-append (10 ∷ [] ++ spaces indent) x,
      length-append {A = ℕ} (10 ∷ []) (spaces indent),
      length-replicate {A = ℕ} indent 32,
      line_length q W indent (b ∷ t),
      after_length f q W indent (indent + length x) r h,
    )

wrapped_length : (q : Bool) (W indent used : ℕ) (t : List ℕ) → indent ≤ 21 → length (wrapped q W indent used t) ≤ 24 * length t + 24
unfolding wrapped
wrapped_length q W indent used t h =
    let x = line_text (fill q W used t) in
    let r = line_rest (fill q W used t) in
    omega (
      arith,
      length-append x (lines_after (length t) q W indent (used + length x) r),
      line_length q W used t,
      after_length (length t) q W indent (used + length x) r h,
    )

pub text_length_lem : (W : ℕ) (first : List ℕ) (indent : ℕ) (q : Bool) (t : List ℕ) → indent ≤ 21
    → length (wrap_text W first indent q t) ≤ length first + 24 * length t + 25
unfolding wrap_text
text_length_lem W first indent false t h =
    let w = wrapped false W indent (length first) t in
    omega (arith, length-append first w, wrapped_length false W indent (length first) t h)
text_length_lem W first indent true t h =
    let w = wrapped true W indent (suc (length first)) t in
    omega (arith, length-append (first ++ 34 ∷ []) w, length-append first (34 ∷ []), wrapped_length true W indent (suc (length first)) t h)
