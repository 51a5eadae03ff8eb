-- `base_keys::bare_key` meets its contract. Assumes nothing.
use Rattle.spec_format.specs.Write.{bare_key}
use Rattle.base_keys.proofs.bare_key.Goals as goal

pub returns : goal.returns
unfolding bare_key
returns c = c.among.ensures
