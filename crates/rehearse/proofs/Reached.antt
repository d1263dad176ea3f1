-- Whatever a line says, the site was reached by events afterwards if it was before.
-- Assumes nothing.
use Rattle.std.proofs.Common.{◌≡◌, ℕ, Bool, true, false, List, [], ◌∷◌, Some, None, Option, Ok, Err, Result, refl, sym, subst}
use Rattle.std.specs.Prelude.{MatchOption, IfOk, OnOk}
use Rattle.part.specs.declared.place.Place.{Place}
use Rattle.clock.specs.declared.terms.Terms.{Terms}
use Rattle.clock.specs.Clocks.{passing}
use Rattle.world.specs.World.{Event, tick, deliver}
use Rattle.site.specs.declared.event.Node.{Node}
use Rattle.site.specs.declared.site.Site.{Site}
use Rattle.site.specs.Worlds.{world_of, node_of}
use Rattle.site.specs.Led.{Onward, Reached}
use Rattle.script.specs.declared.step.Act.{Act}
use Rattle.script.specs.declared.step.Act.TheVariants as act
use Rattle.script.specs.declared.step.Step.{Step}
use Rattle.script.specs.declared.step.Step.TheVariants as step
use Rattle.rehearse.specs.declared.rehearsal.Rehearsal.{Rehearsal}
use Rattle.rehearse.specs.declared.rehearsal.Said.{Said}
use Rattle.rehearse.specs.Played.{AtFirst, SetTo, Ticked, EventPlayed, CallPlayed, TurnedAway, size_of, index_of, target_of, Played}

on : (was is : Site) (e : Event) → Onward was is e → Reached was → Reached is
on was is e o r = record { first = r.first; events = e ∷ r.events; led = o r.first r.events r.led }

same : (was is : Site) → is ≡ was → Reached was → Reached is
same was is e r = subst Reached (sym e) r

pub at_first : (t : Terms) (hands : List ℕ) (r : Rehearsal) → AtFirst t hands r → Reached r.site
at_first t hands r f = record { first = _; events = []; led = f.led }

module _ (was is : Rehearsal) (said : Said) (before : Reached was.site) where
  set : (k : ℕ) (bs : List ℕ) (b : Bool) → was.begun ≡ b → SetTo was is k bs said → Reached is.site
  set k bs true e h = let x = rw e at h in subst (λ (r : Rehearsal). Reached r.site) (sym x.0) before
  set k bs false e h = let x = rw e at h in at_first _ _ is x.0

  ticked : (t : ℕ) (by : List ℕ) → Ticked was is t by said → Reached is.site
  ticked t by (b, k, (Ok u, h, o, s)) = on was.site is.site (tick (passing t by)) o before
  ticked t by (b, k, (Err e, h, o, s)) = same was.site is.site h.0 before

  event : (e : Event) → EventPlayed was is e said → Reached is.site
  event e p = on was.site is.site e p.onward before

  called : (i q : ℕ) (a : Act) (t : Option ℕ) → CallPlayed was is i q a t said → Reached is.site
  called i q (act.Ask k) t p = event _ p
  called i q act.Show None p = on was.site is.site _ p.onward before
  called i q act.Show (Some n) p = event _ p
  called i q (act.Write v) t p = event _ p
  called i q act.Forget t p = event _ p

  arrived : (j n : ℕ) (t : Option ℕ) (o : Option Node) → MatchOption o (TurnedAway was is said) (λ y. EventPlayed was is (deliver j n (node_of y) t) said) → Reached is.site
  arrived j n t None h = same was.site is.site h.0 before
  arrived j n t (Some y) h = event _ h

  delivered : (n : ℕ) (x : Option Node) (t : Option ℕ) (o : Option ℕ)
      → MatchOption o (TurnedAway was is said) (λ j. MatchOption (target_of (world_of was.site) j x) (TurnedAway was is said) (λ y. EventPlayed was is (deliver j n (node_of y) t) said))
      → Reached is.site
  delivered n x t None h = same was.site is.site h.0 before
  delivered n x t (Some j) h = arrived j n t (target_of (world_of was.site) j x) h

  step_on : (s : Step Place) → Played was is (Some s) said → Reached is.site
  step_on step.Blank (e, h) = subst (λ (r : Rehearsal). Reached r.site) (sym e) before
  step_on (step.Set k bs) h = set k bs was.begun refl h
  step_on step.Anew (h, e) = at_first _ _ is h.0
  step_on (step.Tick t by) h = ticked t by h
  step_on (step.Up w) h = event _ h
  step_on (step.Stop w) h = event _ h
  step_on (step.Call w q a k) h = called _ q.at a k h
  step_on (step.Deliver m c w k) h = delivered (size_of c) w k (index_of (world_of was.site) m) h

  pub played_on : (s : Option (Step Place)) → Played was is s said → Reached is.site
  played_on None (e, h) = subst (λ (r : Rehearsal). Reached r.site) (sym e) before
  played_on (Some s) h = step_on s h

pub returned : {E : Type 0} (was is : Rehearsal) (s : Step Place) (r : Result Said E) → IfOk r (Played was is (Some s)) → OnOk r (Reached was.site → Reached is.site)
returned was is s (Ok said) p = λ before. played_on was is said before (Some s) p
returned was is s (Err e) p = tt
