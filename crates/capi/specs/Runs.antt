-- What the calls on a machine of the host leave of it, by the machine's rules, and what the host has of them.
use Rattle.std.specs.Prelude.{◌≡◌, ℕ, true, List, Some, None, Ok, Err, Option, Result, fold}
use Rattle.message.specs.declared.refusal.Refusal.{Refusal}
use Rattle.journal.specs.declared.record.Owner.{Owner}
use Rattle.journal.specs.Records.{Rec, AllSound}
use Rattle.machine.specs.declared.effects.Effects as code
use Rattle.machine.specs.Effects.{Effect, has_failed}
use Rattle.machine.specs.Machines.{Woke}
use Rattle.machine.specs.Nodes.{Has}
use Rattle.capi.specs.declared.misuse.Misuse.{Misuse}
use Rattle.capi.specs.declared.misuse.Misuse.TheVariants as why
use Rattle.capi.specs.declared.reply.Answer.{Answer}
use Rattle.capi.specs.declared.run.Run.{Run}
use Rattle.capi.specs.Answers.{Says}

abbrev pub has : {M T D V : Type 0} → (M → T) → (M → D) → (M → Option V) → Run M → Has T D V
has t d v r = record { terms = t r.machine; durable = d r.machine; volatile = v r.machine }

-- it came up as its rules say, or was refused
pub record CameUp {T D V : Type 0} (redo : D → Rec → D) (wakes : T → (clock : ℕ) → D → Result (V × Effect) Refusal) (clock : ℕ)
    (was is : Has T D V) (r : Result (Unit {0}) Refusal) : Type 0 where
  pub terms : is.terms ≡ was.terms
  pub out : code.Effects
  pub out_is : code.Effects
  pub woke : Woke redo (wakes was.terms clock) was.durable is.durable was.volatile is.volatile out out_is r

module _ (o : Owner) {T D V : Type 0} (redo : D → Rec → D) (rules : T → D → V → V × Effect) where
  -- it was up, and is what its rules say; and the host has what comes of that
  pub record Did (was is : Has T D V) (a : Answer) (filed_was filed_is sent_was sent_is : List ℕ) : Type 0 where
    pub before : V
    pub up : was.volatile ≡ Some before
    pub terms : is.terms ≡ was.terms
    pub durable : is.durable ≡ fold redo was.durable (rules was.terms was.durable before).1.records
    pub volatile : is.volatile ≡ Some (rules was.terms was.durable before).0
    pub sound : AllSound o (rules was.terms was.durable before).1.records
    pub says : Says (rules was.terms was.durable before).1 a filed_was filed_is sent_was sent_is

  -- the same; or it was not up, and all is as it was; or some of what came of it is lost for want of
  -- memory, and the buffers are as they were
  abbrev pub Ran : {M : Type 0} → (has : Run M → Has T D V) → (was is : Run M)
      → Result Answer Misuse → (filed_was filed_is sent_was sent_is : List ℕ) → Type 0
  Ran has was is (Ok a) fw fi sw si = Did (has was) (has is) a fw fi sw si
  Ran has was is (Err why.Handle) fw fi sw si = ((has was).volatile ≡ None) × (is ≡ was) × (fi ≡ fw) × (si ≡ sw)
  Ran has was is (Err why.NoMemory) fw fi sw si =
      (has_failed is.out ≡ true) × (fi ≡ fw) × (si ≡ sw)
  Ran has was is (Err why.Argument) fw fi sw si = ⊥
  Ran has was is (Err why.NoJournal) fw fi sw si = ⊥
