-- The test of UTF-8 as a state that runs through a text: what is still to come is judged from the state that the bytes so far have left.
use Rattle.std.specs.Prelude.{ℕ, zero, suc, ◌-◌, ◌≡◌, refl, Bool, List, [], ◌++◌, eqb, ltb}
use Rattle.std.proofs.Common.{sym, ap, ◌∙◌, append_assoc, append-nil, arith, ne_eqb}
use Rattle.spec_format.specs.Bytes.{pick, between}
use Rattle.spec_format.specs.Utf8.{chars, utf8}
use Rattle.scan_utf8.specs.declared.State.{State}

abbrev pub state : ℕ → ℕ → ℕ → State
state more low high = record { more = more; low = low; high = high }

-- between characters
abbrev pub start : State
start = state 0 0 0

-- no byte is 1 at least and 0 at most
abbrev pub failed : State
failed = state 1 1 0

abbrev pub chars_from : State → List ℕ → Bool
chars_from u t = chars u.more u.low u.high t

abbrev pub ascii : ℕ → Bool
ascii b = ltb b 128

-- the first byte of a character of four bytes
abbrev pub lead_of_four : ℕ → State
lead_of_four b = pick (eqb b 240) (state 3 144 191) (pick (between 241 243 b) (state 3 128 191) (pick (eqb b 244) (state 3 128 143) failed))

unfoldable pub lead_of : ℕ → State
lead_of b =
    pick (ltb b 128) start
    (pick (between 194 223 b) (state 1 128 191)
    (pick (eqb b 224) (state 2 160 191)
    (pick (eqb b 237) (state 2 128 159)
    (pick (between 225 239 b) (state 2 128 191) (lead_of_four b)))))

unfoldable pub step_of : State → ℕ → State
step_of u b = pick (eqb u.more 0) (lead_of b) (pick (between u.low u.high b) (state (u.more - 1) 128 191) failed)

-- r is the state after t, from the state u on
pub record Ran (u : State) (t : List ℕ) (r : State) : Type 0 where
  pub on : (y : List ℕ) → chars_from u (t ++ y) ≡ chars_from r y

-- ---- laws

pub ran_none : (u : State) → Ran u [] u
ran_none u = record { on = λ y. refl }

pub ran_append : (u v w : State) (x y : List ℕ) → Ran u x v → Ran v y w → Ran u (x ++ y) w
ran_append u v w x y p q = record { on = λ z. rw append_assoc (p.on (y ++ z) ∙ q.on z) }

ended : (n lo hi : ℕ) → chars n lo hi [] ≡ eqb n 0
unfolding chars
ended zero lo hi = refl
ended (suc n) lo hi = sym (ne_eqb (suc n) 0 (λ z. omega arith))

-- a text is UTF-8 if the state after it is one between characters
pub ran_utf8 : (t : List ℕ) (r : State) → Ran start t r → utf8 t ≡ eqb r.more 0
unfolding utf8
ran_utf8 t r p = ap (λ (x : List ℕ). chars 0 0 0 x) (sym (append-nil t)) ∙ p.on [] ∙ ended r.more r.low r.high
