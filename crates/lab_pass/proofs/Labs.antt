-- The result of a list of cells that are handed over one by one is what rules 60 to 65 say of them, and its tries are theirs. Assumes nothing.
use Prim.Native.Nat.{ℕ}
use mathlib.Core.Path.{◌≡◌, sym, ap, ◌∙◌}
use mathlib.Core.Logic.{◌⊎◌, inl, inr, ⊎_elim}
use mathlib.Core.List.{List, map}
use Rattle.exercise.specs.declared.Record.{Record}
use Rattle.entries.specs.Table.{Table}
use Rattle.lab_rules.specs.Rules.{LabResult, lab_number, lab_result, lab_tries}
use Rattle.lab_rules.specs.passes.Counts.{searched, AllFit}
use Rattle.lab_rules.proofs.Folded.{counts_are, nets_are}
use Rattle.lab_rules.proofs.Result.{result_is, tries_are}
use Rattle.lab_rules.proofs.Checks.{rules_kept}
use Rattle.lab_pass.specs.passes.Results.{search_of}

module _ (t : Table) (get : ℕ → Record) (is : List ℕ) (fit : AllFit (map get is)) where
  -- 60 to 65
  pub result_is_lab : (search_of t get is).result ≡ lab_result t (map get is)
  unfolding search_of searched
  result_is_lab =
      let cs = map get is in
      rw (counts_are cs, nets_are cs fit) (result_is t cs fit)

  number_is_lab : (search_of t get is).result.number ≡ lab_number t (map get is)
  unfolding lab_result
  number_is_lab = ap (λ (r : LabResult). r.number) result_is_lab

  -- the tries of a LAB that is legal or has no way
  pub tries_is_lab : ((search_of t get is).result.number ≡ 0) ⊎ ((search_of t get is).result.number ≡ 65) → (search_of t get is).tries ≡ lab_tries t (map get is)
  unfolding search_of searched
  tries_is_lab h =
      let cs = map get is in
      let kept = rules_kept t cs (⊎_elim (λ z. inl (sym number_is_lab ∙ z)) (λ z. inr (sym number_is_lab ∙ z)) h) in
      rw (counts_are cs, nets_are cs fit) (tries_are t cs fit kept)
