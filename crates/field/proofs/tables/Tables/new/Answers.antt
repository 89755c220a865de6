use Rattle.lists.proofs.AllLaws.{all}
use Rattle.field.specs.Field.{sum, modulus, xtime, xtimes, times}
use Rattle.field.proofs.TableLaws.{pass, tables_pass}
use Rattle.field.proofs.tables.Tables.new.Goals as goal

-- antt computes the test over the code's own tables
pub invariant_of-result : goal.invariant_of-result
unfolding pass all times xtimes xtime modulus sum
invariant_of-result c = record { filled = tables_pass _ _ c.laid.ensures tt }
