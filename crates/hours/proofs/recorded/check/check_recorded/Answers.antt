use Rattle.std.proofs.Common.{◌∙◌}
use Rattle.hours.specs.RecordedTables.{tables_read}
use Rattle.hours.specs.RecordedAlike.{checked_alike}
use Rattle.hours.proofs.RecordedReading.{checked_by}
use Rattle.hours.proofs.recorded.check.check_recorded.Goals as goal

pub returns : goal.returns
returns c = checked_by c.read_numbers.result c.read_numbers.new.tables (tables_read c.args.numbers.now) c.read_numbers.ensures ∙ checked_alike c.args.numbers.now
