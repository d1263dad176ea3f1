use Rattle.std.proofs.Common.{sym, ◌∙◌, arith, rules}
use Rattle.std.proofs.lemmas.Bool.{le-leb}
use Rattle.part.specs.Bytes.{four}
use Rattle.part.proofs.Writes.{put_mid_is}
use Rattle.part.proofs.number.put_number.Goals as goal

pub returns : goal.returns
returns c =
    record {
      small = search rules;
      fits = sym (le-leb _ _ (omega arith));
      after = put_mid_is c.args.at _ _ _ (four c.args.number) (c.copy_from_slice.ensures.after ∙ c.to_be_bytes.ensures) (omega arith);
    }
