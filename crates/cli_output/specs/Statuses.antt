-- The exit status of a fault.
use Rattle.std.specs.Prelude.{ℕ, if◌then◌else◌}
use Rattle.base.specs.Refusals.{is_device}
use Rattle.base.specs.declared.refusal.Refusal.{Refusal}

-- own: 3 if a device failed, 1 if the input was refused
abbrev pub status_of : Refusal → ℕ
status_of refusal = if is_device refusal then 3 else 1
