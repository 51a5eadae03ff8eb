-- `read_record_sizes::enough` meets its contract. Assumes nothing.
use Rattle.std.proofs.Common.{rules, le-leb}
use borrow.Author.Tests.{lt-leb}
use Rattle.read_record_sizes.specs.Sizing.{fits_in}
use Rattle.read_record_sizes.proofs.enough.Goals as goal

ruleset tests = (le-leb, lt-leb)

pub returns-then-n-locations : goal.returns-then-n-locations
unfolding fits_in
returns-then-n-locations c = search (tests, rules)

pub returns-else-n-locations : goal.returns-else-n-locations
unfolding fits_in
returns-else-n-locations c = search (tests, rules)

pub returns-else-n-qualifiers : goal.returns-else-n-qualifiers
unfolding fits_in
returns-else-n-qualifiers c = search (tests, rules)

pub returns-else-n-features : goal.returns-else-n-features
unfolding fits_in
returns-else-n-features c = search (tests, rules)

pub returns-else-n-comments : goal.returns-else-n-comments
unfolding fits_in
returns-else-n-comments c = search (tests, rules)

pub returns-else-n-references : goal.returns-else-n-references
unfolding fits_in
returns-else-n-references c = search (tests, rules)

pub returns-else-n-texts : goal.returns-else-n-texts
unfolding fits_in
returns-else-n-texts c = search (tests, rules)
