-- One computation compares the whole table with the definition.
use Rattle.std.proofs.Common.{refl, ◌∙◌, arith}
use Rattle.command.specs.{Classes.class_of, Table.class_by}
use Rattle.command.specs.declared.table.TheConstants.{LETTERS}
use Rattle.command.proofs.TableLaw.{by_table}
use Rattle.command.proofs.table.class_of.Goals as goal

pub returns : goal.returns
unfolding class_of class_by
returns c = c.class_by.ensures ∙ by_table LETTERS c.args.byte (omega arith) refl
