-- own: the memory of a watch over reads, and the input faults that it explains.
use Rattle.std.specs.Prelude.{◌≡◌, true, ⊤}
use Rattle.base.specs.declared.input.InputFault.{InputFault}
use Rattle.base.specs.declared.input.InputFault.TheVariants.{TooLong, Read, NoMemory}
use Rattle.base.specs.declared.watch.Watch.{Watch}

-- a read of the watch failed
abbrev pub HasFailed : Watch → Type 0
HasFailed watch = watch.failed ≡ true

-- the fault has its cause: a read failed, or memory was refused; TooLong has none
abbrev pub HasCause : Watch → InputFault → Type 0
HasCause watch TooLong = ⊥
HasCause watch Read = HasFailed watch
HasCause watch NoMemory = ⊤
