-- What a borrower of a site is in the world after it came up.
-- Assumes nothing.
use Rattle.std.proofs.Common.{◌≡◌, ℕ, ◌<◌, true, ltb, List, [], replicate, Some, None, Option, refl, sym, ap, ◌∙◌}
use Rattle.std.proofs.lemmas.Bool.{lt-ltb, cond-true}
use Rattle.part.specs.Parts.{blank}
use Rattle.site.specs.OneBorrower.{borrower_with}
use Rattle.part.specs.declared.who.Who.{Who}
use Rattle.journal.specs.declared.record.Owner.TheVariants as owner
use Rattle.journal.specs.Records.{bytes_of, records_of}
use Rattle.borrower.specs.declared.hold.OnFile.{OnFile}
use Rattle.borrower.specs.declared.hold.Part.{Part}
use Rattle.borrower.specs.declared.tablet.Tablet.{Tablet}
use Rattle.borrower.specs.Steps.{risen}
use Rattle.borrower.specs.Tablets.{part_at, filed_at, copy_at}
use Rattle.borrower.specs.Opened.{CameUp}
use Rattle.world.specs.World.{Borrower, borrower_up}

same : (ps qs : ℕ → Part) (fs gs : ℕ → OnFile) (cs ds : ℕ → List ℕ) (f g : List ℕ) → ps ≡ qs → fs ≡ gs → cs ≡ ds → f ≡ g
    → ◌≡◌ {A = Borrower} (record { parts = ps; filed = fs; copies = cs; up = true; file = f }) (record { parts = qs; filed = gs; copies = ds; up = true; file = g })
same ps qs fs gs cs ds f g p n c e = rw p (rw n (rw c (rw e refl)))

pub came_up : (w : Who) (s : ℕ) (was is : List ℕ) (t : Tablet) → CameUp w s was t → is ≡ bytes_of (records_of owner.Borrower was)
    → ◌≡◌ {A = Borrower} (record { parts = part_at t; filed = filed_at t; copies = copy_at t; up = true; file = is }) (borrower_up was)
came_up w s was is t c e =
    same (part_at t) _ (filed_at t) _ (copy_at t) _ is _ (c.parts ∙ ap (λ (f : ℕ → OnFile). λ q. risen (f q)) c.filed) c.filed c.copies e

pub file_is : (o : Option Tablet) (f : List ℕ) → (borrower_with o f).file ≡ f
file_is None f = refl
file_is (Some t) f = refl

pub zeros : (q : ℕ) → q < 16384 → replicate 1024 0 ≡ blank q
unfolding blank
zeros q h = sym (cond-true (ltb q 16384) (replicate 1024 0) [] (lt-ltb q 16384 h))
