-- Every key that fits is taken.
use Rattle.std.specs.Prelude.{ℕ, true, ◌≡◌, List, ◌++◌}
use Rattle.spec_format.specs.Bytes.{starts}
use Rattle.spec_format.specs.Readers.{got}
use Rattle.spec_format.specs.Features.{key_end, qualifier_key}
use Rattle.spec_feature_names.specs.Taken.{key_taken, any_word}

-- ---- keys

-- ANY KEY, where `=` or a line end follows
pub any_key : (k x : List ℕ) → key_taken k ≡ true → starts key_end x ≡ true → qualifier_key (k ++ x) ≡ got k x
any_key k x h e = any_word key_end k x h e
