-- The journal that a host appends to makes what its machine has.
use Rattle.std.proofs.Common.{◌≡◌, ℕ, List, ◌++◌, take, drop, Some, None, Option, Result, sym, ap, ◌∙◌, subst}
use Rattle.std.proofs.lemmas.List.{take_at}
use Rattle.message.specs.declared.refusal.Refusal.{Refusal}
use Rattle.journal.specs.declared.record.Owner.{Owner}
use Rattle.journal.specs.declared.record.Owner.TheVariants as owner
use Rattle.journal.specs.Made.{IsMade}
use Rattle.journal.specs.Records.{Rec, bytes_of}
use Rattle.journal.proofs.Made.{made_more}
use Rattle.machine.specs.declared.effects.Effects as code
use Rattle.machine.specs.Effects.{Effect}
use Rattle.machine.specs.Machines.{Woke, WokeBy}
use Rattle.machine.specs.Nodes.{Has}
use Rattle.keeping.specs.Rules as keeping
use Rattle.borrowing.specs.Rules as borrowing
use Rattle.capi.specs.Buffers.{Wrote}
use Rattle.capi.specs.Runs.{CameUp}
use Rattle.capi.specs.Hosted.{Hosted, Appends}
use Rattle.std.proofs.lemmas.Bool.{cond_both}
use Rattle.std.specs.Prelude.{◌+◌, ◌^◌, nat_lt}

-- what is in front of a buffer
front : (rs : List Rec) (n : ℕ) (was is : List ℕ) → Wrote (bytes_of rs) n was is → take n is ≡ bytes_of rs
front rs n was is w = ap (take n) w.1 ∙ take_at (bytes_of rs) (drop n was) n (sym w.0)

-- where coming up makes no record
abbrev Keeps : keeping.Durable → Result (keeping.Volatile × Effect) Refusal → Type 0
Keeps d y = (d' : keeping.Durable) (v : Option keeping.Volatile) (o o' : code.Effects) (r : Result (Unit {0}) Refusal)
    → WokeBy keeping.redo y d d' v o o' r → d' ≡ d

woken_same : (l c : ℕ) (d : keeping.Durable) → Keeps d (keeping.wakes l c d)
woken_same l c d =
    cond_both (nat_lt (c + l) (2 ^ 64)) _ _ (Keeps d) (λ e d' v o o' r w. w.durable) (λ e d' v o o' r w. w.durable)

woke_same : (l c : ℕ) (d d' : keeping.Durable) (v v' : Option keeping.Volatile) (o o' : code.Effects) (r : Result (Unit {0}) Refusal)
    → Woke keeping.redo (keeping.wakes l c) d d' v v' o o' r → d' ≡ d
woke_same l c d d' None v' o o' r w = woken_same l c d d' v' o o' r w
woke_same l c d d' (Some v) v' o o' r w = w.durable

came_up : (was is : Has ℕ keeping.Durable keeping.Volatile) (c : ℕ) (r : Result (Unit {0}) Refusal) (file : List ℕ)
    → CameUp keeping.redo keeping.wakes c was is r
    → IsMade owner.Keeper keeping.redo keeping.fresh was.durable file → IsMade owner.Keeper keeping.redo keeping.fresh is.durable file
came_up was is c r file u m =
    subst (λ (d : keeping.Durable). IsMade owner.Keeper keeping.redo keeping.fresh d file)
    (sym (woke_same was.terms c was.durable is.durable was.volatile is.volatile u.out u.«out_is» r u.woke)) m

went : (o : Owner) (T D V : Type 0) (redo : D → Rec → D) (fresh : D) → Appends o T D V redo fresh
went o T D V redo fresh rules was is a fw fi sw si file h m =
    let rs = (rules was.terms was.durable h.before).1.records in
    subst (λ (bs : List ℕ). IsMade o redo fresh is.durable (file ++ bs)) (sym (front rs _ fw fi h.says.filed))
    (made_more o redo fresh was.durable is.durable rs h.sound h.durable file m)

pub hosted : Hosted
hosted =
    record {
      up = came_up;
      keeper = went owner.Keeper ℕ keeping.Durable keeping.Volatile keeping.redo keeping.fresh;
      tablet = went owner.Borrower borrowing.Terms borrowing.Durable borrowing.Volatile borrowing.redo borrowing.fresh;
    }
