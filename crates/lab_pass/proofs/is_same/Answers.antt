-- What `==` finds the same is the same, and what is the same it finds so.
use Rattle.std.proofs.Common.{rules}
use Rattle.lab_pass.proofs.Same.{same_told, same_found}
use Rattle.lab_pass.proofs.is_same.Goals as goal

pub returns-clause-same : goal.returns-clause-same
returns-clause-same c = λ h. same_told c.args.a c.args.b c.eq.result c.eq.ensures (search rules)

pub returns-clause-found : goal.returns-clause-found
returns-clause-found c = λ e. let found = same_found c.args.a c.args.b c.eq.result c.eq.ensures e in search rules
