use Rattle.std.proofs.Common.{ℕ, List, [], ◌∷◌, map, refl, rules, arith}
use Rattle.message.specs.Format.{Msg, layout}
use Rattle.site.specs.Networks.{sent_of}
use Rattle.lender.proofs.Recalls as recalls
use Rattle.site.proofs.network.Network.send_recalls.Goals as goal
use Rattle.site.proofs.network.Network.send_recalls.Goals.{then-by-from+in_ok-send, else-by-from}

-- what is sent of a message
abbrev one : Msg → List (List ℕ)
one m = layout m ∷ []

pub loop-id-preserved : goal.loop-id-preserved
loop-id-preserved c =
    elim c.if-by-from.branch [
      | then-by-from+in_ok-send w ↦
          rw w.self-is (recalls.marked (map layout) one refl (λ m ms. refl) c.args.place.at c.loop-id.id c.args.by.now (sent_of c.loop-id.self) _ _ (omega arith) (search rules) w.in_ok-send.ensures c.loop-id.invariant)
      | else-by-from w ↦
          rw w.self-is (recalls.unmarked (map layout) one refl (λ m ms. refl) c.args.place.at c.loop-id.id c.args.by.now (sent_of c.loop-id.self) _ (omega arith) (search rules) c.loop-id.invariant)
    ]

pub returns : goal.returns
returns c = recalls.all_sent (map layout) one refl (λ m ms. refl) _ _ c.args.by.now _ _ (omega arith) c.loop-id.invariant
