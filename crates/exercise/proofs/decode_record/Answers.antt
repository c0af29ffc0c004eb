-- Each return is the case of `record_of` that its tests pick; the number and the values of that are laws.
use Rattle.std.proofs.Common.{rules}
use Rattle.exercise.specs.Record.{record_of}
use Rattle.exercise.specs.declared.Record.TheVariants.{Malformed}
use Rattle.exercise.proofs.Numbers.{record_says}
use Rattle.exercise.proofs.decode_record.Goals as goal

pub returns-in_default : goal.returns-in_default
unfolding record_of
returns-in_default c = record_says c.args.nets c.args.bytes.now {r = Malformed} (search rules)

pub returns-in-1 : goal.returns-in-1
unfolding record_of
returns-in-1 c = record_says c.args.nets c.args.bytes.now {r = c.combinational_record.result} (search rules)

pub returns-in-2 : goal.returns-in-2
unfolding record_of
returns-in-2 c = record_says c.args.nets c.args.bytes.now {r = c.register_record.result} (search rules)

pub returns-in_default-bytes : goal.returns-in_default-bytes
unfolding record_of
returns-in_default-bytes c = record_says c.args.nets c.args.bytes.now {r = Malformed} (search rules)
