-- Document 01, "Route buffer when legal": the eight route bytes of a LAB, from its needs and a way. Assumes nothing.
use Rattle.std.specs.Prelude.{ℕ, ◌+◌, ◌<◌, ◌≡◌, ◌⊎◌, Bool, true, false, cond, List, [], ◌∷◌, Some, None, eqb, length, get_or, take, replicate}
use Rattle.std.specs.Prelude as std
use Rattle.std.proofs.Math.Option.{Option, none, some}
use Rattle.sheet.specs.Lists.{filterb}
use Rattle.entries.specs.declared.Need.{Need}
use Rattle.entries.specs.Table.{Table, need_at, CLK, ENA, ACLR, SCLR, SLOAD}
use Rattle.route.specs.Way.{Way, Earlier}

-- the entries that w gives to the needs of role r, in need order
abbrev pub entries_for : ℕ → List Need → List ℕ → List ℕ
entries_for r [] w = []
entries_for r (n ∷ ns) [] = []
entries_for r (n ∷ ns) (e ∷ w) = let rest = entries_for r ns w in cond (eqb n.role r) (e ∷ rest) rest

-- the byte of need j of role r: "255 where there is no need", "a single need takes the first of its two bytes"
abbrev pub byte_for : List Need → List ℕ → ℕ → ℕ → ℕ
byte_for ns w r j = get_or (entries_for r ns w) j 255

-- "8 bytes per LAB .., for two clk, two ena, two aclr, sclr, sload in need order"
unfoldable pub eight_bytes : List Need → List ℕ → List ℕ
eight_bytes ns w =
    byte_for ns w CLK 0
    ∷ byte_for ns w CLK 1
    ∷ byte_for ns w ENA 0
    ∷ byte_for ns w ENA 1
    ∷ byte_for ns w ACLR 0
    ∷ byte_for ns w ACLR 1
    ∷ byte_for ns w SCLR 0
    ∷ byte_for ns w SLOAD 0
    ∷ []

-- whether a LAB has a way, and its eight route bytes
pub record LabRoute : Type 0 where
  pub found : Bool
  pub bytes : List ℕ

-- the route of a LAB that the search answers: its bytes, or none
abbrev pub lab_route_from : std.Option (List ℕ) → LabRoute
lab_route_from None = record { found = false; bytes = replicate 8 255 }
lab_route_from (Some b) = record { found = true; bytes = b }

-- whether there is a way, and the route bytes that it gives; eight times 255 where there is none
unfoldable pub lab_route_of : List Need → Option (List ℕ) → LabRoute
lab_route_of ns none = record { found = false; bytes = replicate 8 255 }
lab_route_of ns (some w) = record { found = true; bytes = eight_bytes ns w }

-- ---- where each need's byte stands

-- the first byte of a role: "two clk, two ena, two aclr, sclr, sload"
abbrev pub first_byte : ℕ → ℕ
first_byte role = get_or (0 ∷ 2 ∷ 4 ∷ 6 ∷ 7 ∷ []) role 0

-- how many needs have the role
abbrev pub needs_with : ℕ → List Need → ℕ
needs_with role ns = length (filterb (λ n. eqb n.role role) ns)

-- the byte of need i among the LAB's eight: behind those of the earlier needs of its role
abbrev pub byte_of_need : List Need → ℕ → ℕ
byte_of_need ns i = first_byte (need_at ns i).role + needs_with (need_at ns i).role (take i ns)

-- eight bytes hold the earliest way: at the byte of each need the entry that it has, and 255 at a byte of no need
pub record HoldsEarliest (t : Table) (ns : List Need) (bytes : List ℕ) : Type 0 where
  pub w : List ℕ
  pub is_way : Way t ns w
  pub others_later : (v : List ℕ) → Way t ns v → (v ≡ w) ⊎ Earlier w v
  pub held : (i : ℕ) → i < length ns → (byte_of_need ns i < 8) × (get_or bytes (byte_of_need ns i) 0 ≡ get_or w i 0)
  pub no_need_255 : (b : ℕ) → b < 8 → ((i : ℕ) → i < length ns → byte_of_need ns i ≡ b → ⊥) → get_or bytes b 0 ≡ 255
