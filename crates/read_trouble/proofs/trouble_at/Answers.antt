-- `read_trouble::trouble_at` meets its contract. Assumes nothing.
use Rattle.std.proofs.Common.{rules}
use Rattle.read_trouble.proofs.Told.{finding}
use Rattle.read_trouble.proofs.trouble_at.Goals as goal

pub search_at-requires : goal.search_at-requires
search_at-requires c = search (finding, rules)

pub second_definition-requires : goal.second_definition-requires
second_definition-requires c = search (finding, rules)

pub sections-requires : goal.sections-requires
sections-requires c = search (finding, rules)

pub sections-requires-in-OtherLength : goal.sections-requires-in-OtherLength
sections-requires-in-OtherLength c = search (finding, rules)

pub sections-requires-in-BadLetter : goal.sections-requires-in-BadLetter
sections-requires-in-BadLetter c = search (finding, rules)

pub deep_location-requires : goal.deep_location-requires
deep_location-requires c = search (finding, rules)

pub sections-requires-in-StrayLetter : goal.sections-requires-in-StrayLetter
sections-requires-in-StrayLetter c = search (finding, rules)

pub returns-in-AtEnd : goal.returns-in-AtEnd
returns-in-AtEnd c = search (finding, rules)

pub returns-in-Unended : goal.returns-in-Unended
returns-in-Unended c = search (finding, rules)

pub returns-in-BadPlace : goal.returns-in-BadPlace
returns-in-BadPlace c = search (finding, rules)

pub returns-in-NoLocus : goal.returns-in-NoLocus
returns-in-NoLocus c = search (finding, rules)

pub returns-in-TwoDefinitions : goal.returns-in-TwoDefinitions
returns-in-TwoDefinitions c = search (finding, rules)

pub returns-in-NoSlashes : goal.returns-in-NoSlashes
returns-in-NoSlashes c = search (finding, rules)

pub returns-in-OtherLength : goal.returns-in-OtherLength
returns-in-OtherLength c = search (finding, rules)

pub returns-in-BadLetter : goal.returns-in-BadLetter
returns-in-BadLetter c = search (finding, rules)

pub returns-in-TooDeep : goal.returns-in-TooDeep
returns-in-TooDeep c = search (finding, rules)

pub returns-in-StrayLetter : goal.returns-in-StrayLetter
returns-in-StrayLetter c = search (finding, rules)
