use Rattle.std.proofs.Common.{◌≡◌, ◌+◌, ◌≤◌, ◌++◌, length, take}
use Rattle.journal.proofs.store.file.put.Given as goal

-- each turn that took no bytes was a failure
abbrev pub invariant-loop : goal.invariant-loop
invariant-loop l = record {
  within : l.done ≤ length l.bytes;
  appended : l.known.appended ≡ l.initial.known.appended ++ take l.done l.bytes;
  synced : l.known.synced ≡ l.initial.known.synced;
  locked : l.known.locked ≡ l.initial.known.locked;
  later : l.initial.known.faults ≤ l.known.faults;
  turns : l.initial.known.faults + l.counter ≤ l.done + l.known.faults;
}
