-- A choice is permitted if it is open and offered.
use Rattle.std.proofs.Common.{rules}
use Rattle.normal_tariff.specs.Meaning.{permitted_to}
use Rattle.normal_tariff.proofs.making.is_permitted.Goals as goal

pub returns-then-is_open : goal.returns-then-is_open
unfolding permitted_to
returns-then-is_open c = search rules

pub returns-else-is_open : goal.returns-else-is_open
unfolding permitted_to
returns-else-is_open c = search rules
