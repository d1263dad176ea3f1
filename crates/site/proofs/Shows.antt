-- What is promised of every run is so of a site, and what it shows is fresh.
-- Assumes nothing.
use Rattle.std.proofs.Common.{◌≡◌, ℕ, ◌<◌, Bool, true, false, List, replicate, None, Ok, Err, Result, refl, sym, ap, ◌∙◌, subst, arith}
use Rattle.part.proofs.Writes.{at_1_here}
use Rattle.clock.specs.Moments.{Moment}
use Rattle.message.specs.declared.refusal.Refusal.{Refusal}
use Rattle.borrower.specs.declared.outcome.Call.TheVariants as what
use Rattle.world.specs.World.{World, Borrower, Event, call_effect, after_call, step}
use Rattle.world.specs.Promise.{Promise, latest}
use Rattle.world.proofs.Whole.{whole}
use Rattle.site.specs.declared.seen.Answer.TheVariants.{Given}
use Rattle.site.specs.declared.site.Site.{Site}
use Rattle.site.specs.Worlds.{world_of, answer_to, of_one_up, given}
use Rattle.site.specs.Led.{first_of, run_of, Led}
use Rattle.site.specs.Shows.{show_of}
use Rattle.site.proofs.Played.{can}
use Rattle.std.proofs.lemmas.List.{length-replicate}

-- a call that is done is one of somebody who is up
record Up (b : Bool) (r : Result (Unit {0}) Refusal) : Type 0 where
  pub up : b ≡ true
  pub done : r ≡ Ok tt

done : (b : Bool) (r : Result (Unit {0}) Refusal) → of_one_up b (given r None) ≡ Given (Ok tt) → Up b r
done false r e = absurd (cc (e))
done true (Ok u) e = record { up = refl; done = refl }
done true (Err x) e = absurd (cc (e))

below : 0 < 1
below = omega arith

-- the whole promise, of every run that led to a site
pub promise : (s : Site) (m : Moment) (es : List Event) → Led s m es → Promise (first_of s m) es (run_of s m es)
promise s m es led =
    let t = s.clocks.terms in
    whole t.rate t.short t.long 1 m es (record { terms = t.fit; units = below; clocks = rw led.leads led.stands.within })

pub fresh : (s : Site) (i q : ℕ) → answer_to (world_of s) (show_of i q) ≡ Given (Ok tt) → (m : Moment) (es : List Event) → Led s m es
    → (((world_of s).borrower i).copies q ≡ latest q (run_of s m es).applied) × (((world_of s).borrower i).copies q ≡ (world_of s).keeper.parts q)
fresh s i q e m es led =
    let z = replicate {A = ℕ} 1024 0 in
    let w = world_of s in
    let d = done (w.borrower i).up (call_effect i q what.Show z w).answer e in
    let is : w ≡ (run_of s m es).world = sym led.leads in
    let shown = (promise s m es led).holds.shown i q z (subst (λ (x : World). (x.borrower i).up ≡ true) is d.up) (subst (λ (x : World). (call_effect i q what.Show z x).answer ≡ Ok tt) is d.done) in
    (ap (λ (x : World). (x.borrower i).copies q) is ∙ shown.0, subst (λ (x : World). (x.borrower i).copies q ≡ x.keeper.parts q) led.leads shown.1)

-- a call to show leaves every copy: what is there afterwards was there before
pub copied : (w w' : World) (i q : ℕ) (v : List ℕ) → w' ≡ step w (show_of i q) → answer_to w (show_of i q) ≡ Given (Ok tt) → i < 32 → q < 16384
    → v ≡ (w'.borrower i).copies q → v ≡ (w.borrower i).copies q
copied w w' i q v world e few here h =
    let z = replicate {A = ℕ} 1024 0 in
    let d = done (w.borrower i).up (call_effect i q what.Show z w).answer e in
    let stays : (step w (show_of i q)).borrower i ≡ after_call i q what.Show z w =
    rw (can w i q what.Show z few here (length-replicate {A = ℕ} 1024 0) d.up) (at_1_here i (after_call i q what.Show z w) w.borrower) in
    h ∙ ap (λ (x : World). (x.borrower i).copies q) world ∙ ap (λ (b : Borrower). b.copies q) stays
