-- Document 01's P9 to P12 on the house board: their tries, by computation. P11 has no way. Assumes nothing.
use Prim.Native.Nat.{ℕ, ◌+◌}
use mathlib.Core.Path.{◌≡◌, refl, sym, ◌∙◌}
use mathlib.Core.List.{List, [], ◌∷◌}
use Rattle.entries.specs.declared.Need.{Need}
use Rattle.entries.specs.Table.{house_board, CLK, ENA, ACLR, SCLR, SLOAD}
use Rattle.route.specs.Tries.{tries}
use Rattle.route.specs.passes.Search.{pick, search_from, tally, tries_from, tries_made}
use Rattle.route.proofs.Tries.{made_tries}

-- a need of the role for the signal
abbrev need : ℕ → ℕ → Need
need r code = record { role = r; signal = record { 0 = code } }

-- needs of these roles, each for a net of its own from the code on
abbrev roles : ℕ → List ℕ → List Need
roles code [] = []
roles code (r ∷ rs) = need r code ∷ roles (code + 2) rs

house_tries : (ns : List Need) (k : ℕ) → tries_made house_board ns ≡ k → tries house_board ns ≡ k
house_tries ns k q = sym (made_tries house_board ns) ∙ q

p9_tries : tries house_board (roles 4 (CLK ∷ ENA ∷ ACLR ∷ [])) ≡ 3
unfolding tries_made tries_from tally search_from pick house_board
p9_tries = house_tries (roles 4 (CLK ∷ ENA ∷ ACLR ∷ [])) 3 refl

p10_tries : tries house_board (roles 4 (CLK ∷ CLK ∷ ACLR ∷ ACLR ∷ [])) ≡ 6
unfolding tries_made tries_from tally search_from pick house_board
p10_tries = house_tries (roles 4 (CLK ∷ CLK ∷ ACLR ∷ ACLR ∷ [])) 6 refl

p11_tries : tries house_board (roles 4 (CLK ∷ CLK ∷ ENA ∷ ENA ∷ ACLR ∷ ACLR ∷ [])) ≡ 25
unfolding tries_made tries_from tally search_from pick house_board
p11_tries = house_tries (roles 4 (CLK ∷ CLK ∷ ENA ∷ ENA ∷ ACLR ∷ ACLR ∷ [])) 25 refl

p12_tries : tries house_board (roles 4 (CLK ∷ CLK ∷ ACLR ∷ ACLR ∷ SCLR ∷ SLOAD ∷ [])) ≡ 8
unfolding tries_made tries_from tally search_from pick house_board
p12_tries = house_tries (roles 4 (CLK ∷ CLK ∷ ACLR ∷ ACLR ∷ SCLR ∷ SLOAD ∷ [])) 8 refl

-- M-107: P11 with a net and its inverse as clk has a way, at the first entry that each need may have
shared_tries : tries house_board (need CLK 4 ∷ need CLK 5 ∷ roles 6 (ENA ∷ ENA ∷ ACLR ∷ ACLR ∷ [])) ≡ 6
unfolding tries_made tries_from tally search_from pick house_board
shared_tries = house_tries (need CLK 4 ∷ need CLK 5 ∷ roles 6 (ENA ∷ ENA ∷ ACLR ∷ ACLR ∷ [])) 6 refl
