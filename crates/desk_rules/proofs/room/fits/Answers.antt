use Rattle.std.proofs.Common.{rules}
use Rattle.desk_rules.proofs.room.fits.Goals as goal

pub returns-then-count-most : goal.returns-then-count-most
returns-then-count-most c = search rules
