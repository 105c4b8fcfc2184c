-- The bytes of a field, and what is answered to them. Assumes nothing.
use Rattle.std.specs.Prelude.{◌≡◌, ℕ, ◌-◌, List, [], Result, MatchResult, slice_index_or}
use Rattle.jobtext.specs.Parts.{line_fields}
use Rattle.command.specs.declared.fault.FieldFault.{FieldFault}
use Rattle.command.specs.declared.fields.Field.{Field}
use Rattle.command.specs.Demands.{Demand, Fails}
use Rattle.command.specs.Faults.{fault_number, fault_layer}

abbrev pub bytes_in : Field → List ℕ
bytes_in field = slice_index_or (line_fields field.line.now) (field.number - 1) []

-- a good value, or the fault of the field's demand, in the field
abbrev pub ReadAs : {T : Type 0} → Demand → Field → (T → Type 0) → Result T FieldFault → Type 0
ReadAs demand field good r = MatchResult r good (λ found. (found.field ≡ field.number) × Fails demand [] (bytes_in field) (fault_layer found.fault) (fault_number found.fault))
