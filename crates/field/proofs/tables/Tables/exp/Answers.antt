use Rattle.field.proofs.tables.Tables.exp.Goals as goal

pub returns : goal.returns
returns c = c.args.self.now.filled.power_of _ c.requires
