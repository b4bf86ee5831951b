use Rattle.std.proofs.Common.{[], ◌∷◌, refl}
use Rattle.plantlog.specs.Format.{Count}
use Rattle.plantlog.proofs.WriteBack.{wrote}
use Rattle.plantlog.proofs.writer.write_count.Goals as goal

pub returns : goal.returns
returns c =
    let put = c.put_record.ensures in
    wrote (Count (record { day = c.args.day }) c.args.count) _ (c.args.day ∷ c.args.count ∷ []) c.put_record.result c.put_record.new.out c.args.out.now refl refl refl put.small put.value put.after
