-- What stays of the keeper through every step, and what it is in the world after it came up.
-- Assumes nothing.
use Rattle.std.proofs.Common.{◌≡◌, ℕ, ◌+◌, true, false, List, [], Some, None, Option, refl, ap, ◌∙◌}
use Rattle.message.specs.Format.{Msg}
use Rattle.lender.specs.declared.keeper.Keeper.{Keeper}
use Rattle.journal.specs.declared.record.Owner.TheVariants as owner
use Rattle.journal.specs.Records.{bytes_of, records_of}
use Rattle.lender.specs.Book.{keeper_book, keeper_parts}
use Rattle.lender.specs.Replay.{Memory, memory, replay, nothing}
use Rattle.lender.specs.OnDisk.{OnDisk}
use Rattle.lender.specs.Rules.{risen}
use Rattle.world.specs.World.{Lender, recovered, keeper_up}
use Rattle.world.proofs.Files.{cut_journal}
use Rattle.world.proofs.Time.{book_long}
use Rattle.lender.specs.Rules.{Book}
use Rattle.lender.specs.Replies.{heard_book}
use Rattle.site.specs.OneKeeper.{lender_with}

-- how long a lease runs is never changed
pub heard_long : (c : ℕ) (o : Option Msg) (m : Book) → (heard_book c o m).long ≡ m.long
heard_long = book_long

pub file_is : (o : Option Keeper) (l : ℕ) (f : List ℕ) → (lender_with o l f).file ≡ f
file_is None l f = refl
file_is (Some k) l f = refl

-- a keeper with this memory, in its grace period
abbrev grace_of : (c l : ℕ) → Memory → (file : List ℕ) → Lender
grace_of c l s f = record { book = record { done = s.done; void = s.void; leases = []; quiet = c + l; long = l }; parts = s.parts; up = true; file = f }

pub came_up : (c l : ℕ) (was is : List ℕ) (k : Keeper) (b : Book) (f : ℕ → List ℕ) → OnDisk k is → is ≡ bytes_of (records_of owner.Keeper was) → (keeper_book k).long ≡ l
    → b ≡ risen c (keeper_book k) → f ≡ keeper_parts k → ◌≡◌ {A = Lender} (record { book = b; parts = f; up = true; file = is }) (keeper_up c l was)
came_up c l was is k b f d e h n p =
    let again : records_of owner.Keeper is ≡ records_of owner.Keeper was = ap (records_of owner.Keeper) e ∙ (cut_journal owner.Keeper false was).0 in
    let made : memory (keeper_book k) (keeper_parts k) ≡ recovered was = d.made ∙ ap (λ rs. replay rs nothing) again in
    ap (λ (x : Book). lender x f is) n
    ∙ ap (λ (x : ℕ → List ℕ). lender (risen c (keeper_book k)) x is) p
    ∙ ap (λ (x : ℕ). grace_of c x (memory (keeper_book k) (keeper_parts k)) is) h
    ∙ ap (λ (s : Memory). grace_of c l s is) made
    ∙ ap (grace_of c l (recovered was)) e
  where
    lender : Book → (ℕ → List ℕ) → List ℕ → Lender
    lender x g y = record { book = x; parts = g; up = true; file = y }
