-- Entries that are borrowed from the bytes that were read.
use Rattle.siglist.specs.SignatureLists as spec
use Rattle.siglist.specs.declared.entry.Entry.{Entry}

-- the value of a borrowed entry
abbrev pub seen_entry : Entry → spec.Entry
seen_entry e = record { owner = e.owner; body = e.body.now }
