-- A rise lasts: the counts of faults never fall.
use Rattle.std.proofs.Common.{ℕ, ◌≤◌, inl, inr, arith}
use Rattle.lab_outside.specs.Rose.{Rose}

pub rose_after : (old mid new : ℕ) → old ≤ mid → Rose mid new → Rose old new
rose_after old mid new h (inl r) = inl (omega arith)
rose_after old mid new h (inr r) = inr r

pub rose_before : (old mid new : ℕ) → Rose old mid → mid ≤ new → Rose old new
rose_before old mid new (inl r) h = inl (omega arith)
rose_before old mid new (inr r) h = inr (omega arith)
