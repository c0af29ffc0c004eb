-- Each role has its flag.
use Rattle.std.proofs.Common.{rules, ◌/◌, ◌%◌, ◌^◌, eqb}
use Rattle.settings.proofs.Rows.{made_list}
use Rattle.settings.proofs.row.Goals as goal

pub returns : goal.returns
returns c = made_list c.from_fn.ensures.items (λ role. eqb (c.args.flags / (2 ^ role) % 2) 1) (λ role y q k. search rules)
