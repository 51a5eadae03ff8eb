-- `write_wrap_location::comma_break` meets its contract. Assumes nothing.
use Rattle.write_wrap_location.specs.Commas.{broke_some, broke_bare}
use Rattle.write_wrap_location.proofs.comma_break.Goals as goal

pub returns-in-Some : goal.returns-in-Some
returns-in-Some c = broke_some _ _ _ c.requires c.in-Some.ensures

pub returns-in-None : goal.returns-in-None
returns-in-None c = broke_bare _ _ c.requires c.in-None.ensures
