-- The quoted reading and the bare one as one reading. Assumes nothing.
use Prim.Native.Nat.{ℕ, ◌+◌, ◌-◌}
use mathlib.Core.Path.{◌≡◌, sym}
use mathlib.Core.Bool.{Bool, true, false}
use mathlib.Core.List.{List}
use native.Mathlib.Omega.{arith}
use lib.ListN.{take, drop}
use Rattle.spec_format.specs.Readers.{utf8_of}
use Rattle.spec_format.specs.Features.{quoted, bare}
use Rattle.read_feature_joined.specs.Views.{Valued, value_places, value_is}
use Rattle.read_feature_joined.specs.declared.Value.{Value}
use Rattle.read_feature_joined.specs.declared.Value.TheVariants as value
use Rattle.base_pen.specs.Pen.{Writes, writes_as}
use Rattle.read_feature_bare.specs.Bared.{bare_text}
use Rattle.read_feature_quoted.specs.Escapes.{quoted_text}
use Rattle.read_feature_quoted.specs.Straight.{straight}
use Rattle.read_feature_value.specs.declared.Read.TheVariants as read
use Rattle.read_feature_value.specs.Reads.{value_with, read_text, Placed, ReadIs}
use Rattle.spec_format.specs.Impossible.{impossible}

module _ (s : List ℕ) (at : ℕ) (joined : Bool) (indent : ℕ) (r : Value)
    (h : Valued s at (quoted_text joined indent (drop at s)) (utf8_of (quoted joined indent (drop at s))) r) where
  pub read_quoted : (n next : ℕ) → r ≡ value.Got n next → ReadIs s at joined indent (value_with joined indent (drop at s)) (read.Got true n next)
  unfolding value_with
  read_quoted n next e =
      let p = value_places h e in
      record {
        is = rw (value_is h e);
        place = record { span = p; straight = λ q k. straight joined indent s at n next (sym (value_is h e)) p.long p.within k };
      }

  pub read_cut : r ≡ value.Cut → ReadIs s at joined indent (value_with joined indent (drop at s)) read.Cut
  unfolding value_with
  read_cut e = record { is = rw (← h.is, e); place = tt }

  module _ (e : r ≡ value.No) (q : Value) (g : Valued s at (bare_text indent (drop at s)) (utf8_of (bare indent (drop at s))) q) where
    pub read_bare : (n next : ℕ) → q ≡ value.Got n next → ReadIs s at joined indent (value_with joined indent (drop at s)) (read.Got false n next)
    unfolding value_with
    read_bare n next f =
        record {
          is = rw (← h.is, e, value_is g f);
          place = record { span = value_places g f; straight = λ q k. impossible cc };
        }

    pub read_none : q ≡ value.No → ReadIs s at joined indent (value_with joined indent (drop at s)) read.No
    unfolding value_with
    read_none f = record { is = rw (← h.is, e, ← g.is, f); place = tt }

    pub read_unclear : q ≡ value.Cut → ReadIs s at joined indent (value_with joined indent (drop at s)) read.Cut
    unfolding value_with
    read_unclear f = record { is = rw (← h.is, e, ← g.is, f); place = tt }

pub ruleset readings = (read_quoted, read_cut, read_bare, read_none, read_unclear)

pub put_straight : (s : List ℕ) (at : ℕ) (joined : Bool) (indent : ℕ) (which : Bool) (n next : ℕ) (old : List ℕ) (place : ℕ) (new : List ℕ) (k : ℕ)
    → Placed s at joined indent which n next → which ≡ true → next - at - n ≡ 3 → Writes old place (take (at + 1 + n - (at + 1)) (drop (at + 1) s)) new k
    → Writes old place (read_text which joined indent (drop at s)) new k
put_straight s at joined indent which n next old place new k h e f w =
    let a : at + 1 + n - (at + 1) ≡ n = omega arith in
    let b : next ≡ at + n + 3 = omega arith in writes_as (sym (h.straight e b)) (rw a at w)

module _ (joined : Bool) (indent : ℕ) (z old : List ℕ) (place : ℕ) (new : List ℕ) (k : ℕ) (which : Bool) where
  pub put_quoted : which ≡ true → Writes old place (quoted_text joined indent z) new k → Writes old place (read_text which joined indent z) new k
  put_quoted e w = rw e w

  pub put_bare : which ≡ false → Writes old place (bare_text indent z) new k → Writes old place (read_text which joined indent z) new k
  put_bare e w = rw e w

pub ruleset puts = (put_straight, put_quoted, put_bare)
