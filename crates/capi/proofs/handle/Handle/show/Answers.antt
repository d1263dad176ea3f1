use Rattle.std.proofs.Common.{rules, Some, ◌≡◌, subst, sym}
use Rattle.capi.specs.Asked.{named}
use Rattle.capi.specs.Handles.{held}
use Rattle.capi.specs.Hearing.{Shows}
use Rattle.capi.proofs.Behind.{shows_behind}
use Rattle.capi.proofs.handle.Handle.show.Goals as goal

pub returns : goal.returns
returns c =
    let r = c.show-result.result in
    let f = c.args.filed.now in
    let g = c.show-result.new.filed in
    let v = c.args.copy.now in
    let w = c.show-result.new.copy in
    let was = held c.args.self.now in
    let is = held c.put_back.new.self in
    let e : named c.args.file c.args.part ≡ Some c.in_ok-place.place.at = search rules in
    subst (λ o. Shows c.args.clock o was is r f g v w) (sym e)
    (shows_behind c.args.clock c.in_ok-place.place.at c.in_ok-machine.machine.value c.show-result.new.self was is r f g v w
    (search rules) (search rules) (search rules))
