use Rattle.std.proofs.Common.{rules}
use Rattle.plantlog.specs.declared.record.RecordKind.TheVariants.{Table, Setup, Alternative, Count, Rearm, End}
use Rattle.plantlog.proofs.ByKind.{at_kind, no_body, other_kind}
use Rattle.plantlog.proofs.parse.parse.Goals.{in_default-via-then-body-lt1, in_default-via-else-body-lt1+in_default-1}
use Rattle.plantlog.proofs.parse.parse.Goals as goal

pub returns-in-1 : goal.returns-in-1
returns-in-1 c = at_kind Table c.args.body.now (search rules) (search rules) c.null_fields.ensures

pub returns-in-2 : goal.returns-in-2
returns-in-2 c = at_kind Setup c.args.body.now (search rules) (search rules) c.setup_fields.ensures

pub returns-in-3 : goal.returns-in-3
returns-in-3 c = at_kind Alternative c.args.body.now (search rules) (search rules) c.alternative_fields.ensures

pub returns-in-4 : goal.returns-in-4
returns-in-4 c = at_kind Count c.args.body.now (search rules) (search rules) c.count_fields.ensures

pub returns-in-5 : goal.returns-in-5
returns-in-5 c = at_kind Rearm c.args.body.now (search rules) (search rules) c.rearm_fields.ensures

pub returns-in-6 : goal.returns-in-6
returns-in-6 c = at_kind End c.args.body.now (search rules) (search rules) c.end_fields.ensures

pub returns-in_default : goal.returns-in_default
returns-in_default c =
    elim c.in_default.branch [ in_default-via-then-body-lt1 w ↦ no_body c.args.body.now (search rules) | in_default-via-else-body-lt1+in_default-1 w ↦ other_kind c.args.body.now (search rules) (search rules) (search rules) (search rules) (search rules) (search rules) (search rules) ]
