-- `base_keys::comma_key` meets its contract. Assumes nothing.
use Rattle.spec_format.specs.Write.{comma_key}
use Rattle.base_keys.proofs.comma_key.Goals as goal

pub returns : goal.returns
unfolding comma_key
returns c = c.among.ensures
