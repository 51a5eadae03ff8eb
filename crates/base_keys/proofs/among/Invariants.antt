-- The key is one of the words if it is one of those not yet seen.
use Rattle.std.proofs.Common.{◌≡◌, map, drop}
use Rattle.spec_format.specs.Bytes.{among}
use Rattle.base_keys.proofs.among.Given as goal

abbrev pub invariant-loop-w : goal.invariant-loop-w
invariant-loop-w l = among l.key (map (λ w. w.now) l.words) ≡ among l.key (map (λ w. w.now) (drop l.w-index l.words))
