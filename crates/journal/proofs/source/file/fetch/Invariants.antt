use Rattle.std.proofs.Common.{◌≡◌, ◌+◌}
use Rattle.journal.proofs.source.file.fetch.Given as goal

-- each turn was a failure
abbrev pub invariant-loop : goal.invariant-loop
invariant-loop l = record {
  appended : l.known.appended ≡ l.initial.known.appended;
  synced : l.known.synced ≡ l.initial.known.synced;
  found : l.known.found ≡ l.initial.known.found;
  locked : l.known.locked ≡ l.initial.known.locked;
  turns : l.known.faults ≡ l.initial.known.faults + l.counter;
}
