-- What the readers give of a sheet that passes is what the writers take: a record that is not malformed is given, with its values. Assumes nothing.
use Prim.Native.Nat.{ℕ, ◌<◌}
use mathlib.Core.Path.{◌≡◌, refl, sym, ap, ◌∙◌}
use mathlib.Core.Bool.{false, true≢false}
use mathlib.Core.List.{List, []}
use native.Mathlib.Omega.{arith}
use borrow.Author.Tests.{lt-leb}
use Rattle.sheet.specs.Lists.{anyb, below}
use Rattle.sheet.specs.Bytes.{byte_at}
use Rattle.sheet.proofs.Scan.{none_at}
use Rattle.sheet.proofs.Lists.{table_length}
use Rattle.sheet.proofs.Checks.{all_held}
use Rattle.exercise.specs.Exercise.{cell_count}
use Rattle.exercise.specs.Record.{record_values, is_malformed}
use Rattle.exercise.specs.declared.Record.{Record}
use Rattle.exercise.specs.declared.Record.TheVariants as Kind
use Rattle.answer.specs.Answer.{place_count, placed_at, placed_values}
use Rattle.answer.specs.declared.Place.{Place}
use Rattle.std.specs.Prelude.{Option, Some, None}
use Rattle.tables.specs.Records.{cell, malformed}
use Rattle.placing.specs.Places.{is_out_of_range, out_of_range_at}
use Rattle.reader.specs.Reader.{step_at, step_of, exercise_step_at, place_step_of, answer_step_at}
use Rattle.writer.specs.Exercises.{packed, record_checks, records_number, netlist_of, ExercisePasses}
use Rattle.writer.specs.Answers.{placement_of, AnswerPasses}
use Rattle.settings.specs.Settings.{flags, settings_numbers, settings_entries}
use Rattle.settings.proofs.Laws.{passed, flags_length}
use Rattle.entries.specs.Table.{ENTRIES}
use Rattle.writer.specs.Boards.{board_of, SettingsPass}
use Rattle.sheet.proofs.Lists.{table_at}
use Rattle.c_api.specs.Told.{cell_told, cell_fields, place_told, place_fields}
use Rattle.c_api.specs.Circle.{CellsRead, PlacesRead, BoardRead, Circle}

-- ---- a record
cell_given : (r : Record) → is_malformed r ≡ false → (cell_told (step_of r) ≡ 0) × (cell_fields (step_of r) ≡ record_values r)
cell_given (Kind.Combinational c) h = (refl, refl)
cell_given (Kind.Register c) h = (refl, refl)
cell_given Kind.Malformed h = absurd (true≢false h)

place_given : (p : Option Place) → is_out_of_range p ≡ false → (place_told (place_step_of p) ≡ 0) × (place_fields (place_step_of p) ≡ placed_values p)
place_given (Some p) h = (refl, refl)
place_given None h = absurd (true≢false h)

-- ---- a sheet
module _ (e : List ℕ) (formed : anyb (malformed e) (below (cell_count e)) ≡ false) (i : ℕ) (l : i < cell_count e) where
  cell_read : (cell_told (exercise_step_at e i) ≡ 0) × (cell_fields (exercise_step_at e i) ≡ record_values (cell e i))
  unfolding step_at malformed cell
  cell_read = rw (lt-leb (cell_count e) i l) (cell_given (cell e i) (none_at (malformed e) (cell_count e) formed i l))

module _ (a : List ℕ) (placed : anyb (out_of_range_at a) (below (place_count a)) ≡ false) (i : ℕ) (l : i < place_count a) where
  place_read : (place_told (answer_step_at a i) ≡ 0) × (place_fields (answer_step_at a i) ≡ placed_values (placed_at a i))
  unfolding step_at out_of_range_at
  place_read = rw (lt-leb (place_count a) i l) (place_given (placed_at a i) (none_at (out_of_range_at a) (place_count a) placed i l))

cells_read : (e : List ℕ) → ExercisePasses e → CellsRead e (netlist_of e)
unfolding ExercisePasses records_number netlist_of
cells_read e p =
    let formed = (all_held (record_checks e) refl p.1).0 in
    let said : ℕ → List ℕ = λ i. packed (record_values (cell e i)) in
    record {
      nets = refl;
      count = table_length said (cell_count e);
      given = λ i l. (cell_read e formed i l).0;
      each = λ i l. ap packed (cell_read e formed i l).1 ∙ sym (table_at said [] (cell_count e) i l);
    }

places_read : (a : List ℕ) → AnswerPasses a → PlacesRead a (placement_of a)
unfolding AnswerPasses placement_of
places_read a p =
    let said : ℕ → List ℕ = λ i. placed_values (placed_at a i) in
    record {
      named = refl;
      count = table_length said (place_count a);
      given = λ i l. (place_read a p.1 i l).0;
      each = λ i l. (place_read a p.1 i l).1 ∙ sym (table_at said [] (place_count a) i l);
    }

-- what is said of a settings sheet that passes
board_read : (s : List ℕ) → SettingsPass s → BoardRead s (board_of s)
unfolding SettingsPass board_of settings_numbers settings_entries
board_read s p =
    let whole = passed s p in
    let full = flags_length s whole in
    let room = whole.few in
    record {
      told = p;
      version = rw p;
      board = rw p;
      count = rw p (sym full);
      each = λ i l. rw p (table_at (byte_at (flags s)) 0 ENTRIES i (omega arith));
    }

pub circle : Circle
circle = record { exercise = cells_read; answer = places_read; settings = board_read }
