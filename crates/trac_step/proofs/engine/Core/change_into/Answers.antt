-- The arguments of a call are cut once: for the room of its record, for its change, and for the record.
use Rattle.std.proofs.Common.{◌≡◌, ◌∷◌, List, ℕ, length, refl, sym, ap, ◌∙◌, subst, arith}
use Rattle.std.specs.List.{concat}
use Rattle.trac_rules.specs.Proper.{IsProperStorage}
use Rattle.trac_rules.specs.Records.{Called, Record}
use Rattle.trac_rules.specs.Scanning.{scan}
use Rattle.trac_rules.specs.State.{Storage, storage_of}
use Rattle.trac_rules.specs.Undone.{Nothing}
use Rattle.trac_forms.specs.Stored.{storage_in}
use Rattle.trac_change.specs.Changes.{PiecesAreOf, undone_of}
use Rattle.trac_change.specs.Changed.{changed}
use Rattle.trac_change.specs.Undone.{undone_in}
use Rattle.trac_journal.specs.Listed.{AreSmall}
use Rattle.trac_journal.specs.Told.{record_with}
use Rattle.trac_storage.specs.Changing.{names_put}
use Rattle.trac_storage.proofs.Known.{none_forgotten}
use Rattle.trac_text.proofs.Beginnings.{some_frame}
use Rattle.trac_step.specs.Calling.{arguments_in, with_change, with_storage}
use Rattle.trac_step.specs.Layout.{Shown}
use Rattle.trac_step.specs.Ready.{undone_after}
use Rattle.trac_step.proofs.CallsPerformed.{fits_as}
use Rattle.trac_step.proofs.Finishing.{begins_here, given_here}
use Rattle.trac_step.proofs.Fitting.{arguments_within}
use Rattle.trac_step.proofs.Rooms.{no_less}
use Rattle.trac_step.proofs.Storages.{changed_shows, no_less_store}
use Rattle.trac_step.proofs.engine.Core.change_into.Goals as goal

pub arguments_at-arguments-requires : goal.arguments_at-arguments-requires
arguments_at-arguments-requires g c = begins_here c.self.view_is c.args.beginning c.requires.can.begins

pub reserve_call-requires : goal.reserve_call-requires
reserve_call-requires g c =
    let s = c.args.self.now.state in
    let can = c.requires.can in
    let within = arguments_within s can.front (some_frame s.frames s.base c.args.beginning can.begins) c.requires.proper in
    let given = c.arguments_at-arguments.ensures ∙ given_here c.self.view_is can.front in
    omega (arith, within.bytes, ap (λ (texts : List (List ℕ)). length (concat texts)) given)

-- ---- nothing changes of forms and blocks

pub push_call-requires-clause-small : goal.push_call-requires-clause-small
push_call-requires-clause-small g c =
    let given = c.arguments_at-arguments.ensures ∙ given_here c.self.view_is c.requires.can.front in
    subst (λ (texts : List (List ℕ)). AreSmall c.args.called (length (concat texts)) (length texts)) (sym given) c.requires.fits.small

pub push_call-requires-clause-light : goal.push_call-requires-clause-light
push_call-requires-clause-light g c =
    let s = c.args.self.now.state in
    let given = c.arguments_at-arguments.ensures ∙ given_here c.self.view_is c.requires.can.front in
    (fits_as c.args.called c.args.called (arguments_in (scan s)) c.arguments_at-arguments.result (undone_after c.args.change.now s) Nothing refl given (λ i. undone_after (sym c.in-Keep.is i) s) c.requires.fits).light

pub returns-in-Keep : goal.returns-in-Keep
returns-in-Keep g c =
    let s = c.args.self.now.state in
    let given = c.arguments_at-arguments.ensures ∙ given_here c.self.view_is c.requires.can.front in
    record {
      done = λ i. with_change (scan s) (sym c.in-Keep.is i) s;
      added = c.push_call.ensures ∙ (λ i. Called (record_with c.args.called (given i) (undone_after (sym c.in-Keep.is i) s)) ∷ c.reserve_call.ensures.same i);
      unchanged = tt;
      err = tt;
      room = no_less c.args.self.now;
    }

-- ---- something changes

pub change_forms-requires : goal.change_forms-requires
change_forms-requires g c =
    let given = c.arguments_at-arguments.ensures ∙ given_here c.self.view_is c.requires.can.front in
    record {
      pieces =
          subst (λ (texts : List (List ℕ)). PiecesAreOf texts (storage_in c.self.inside.store) c.args.change.now) (sym given)
          (subst (λ (m : Shown). PiecesAreOf (arguments_in (scan c.args.self.now.state)) (storage_of m.state) c.args.change.now) (sym c.self.view_is) c.requires.can.pieces);
      proper = c.self.invariant.storage_is;
    }

pub push_call-requires-2 : goal.push_call-requires-2
push_call-requires-2 g c =
    let s = c.args.self.now.state in
    let given = c.arguments_at-arguments.ensures ∙ given_here c.self.view_is c.requires.can.front in
    let destroyed : undone_in c.in_ok-undone.undone ≡ undone_after c.args.change.now s = c.in_ok-undone.ensures.undone ∙ (λ j. undone_of (given j) c.args.change.now (storage_of (c.self.view_is j).state)) in
    let fits = fits_as c.args.called c.args.called (arguments_in (scan s)) c.arguments_at-arguments.result (undone_after c.args.change.now s) _ refl given destroyed c.requires.fits in
    record {
      not_full = omega (arith, c.requires.not_full, ap (λ (records : List Record). length records) c.reserve_call.ensures.same);
      small = fits.small;
      light = fits.light;
      room = c.in_ok-reserve_call.ensures.ok;
    }

pub invariant_of-self-2 : goal.invariant_of-self-2
invariant_of-self-2 g c =
    let given = c.arguments_at-arguments.ensures ∙ given_here c.self.view_is c.requires.can.front in
    let is = c.in_ok-undone.ensures.storage ∙ (λ j. changed (given j) c.args.change.now (storage_of (c.self.view_is j).state)) in
    record { storage_is = subst IsProperStorage (sym is) c.requires.can.proper; output_limit = c.self.invariant.output_limit }

pub returns : goal.returns
returns g c =
    let s = c.args.self.now.state in
    let change = c.args.change.now in
    let after = c.change_forms.new.store in
    let given = c.arguments_at-arguments.ensures ∙ given_here c.self.view_is c.requires.can.front in
    let is = c.in_ok-undone.ensures.storage ∙ (λ j. changed (given j) change (storage_of (c.self.view_is j).state)) in
    let destroyed : undone_in c.in_ok-undone.undone ≡ undone_after change s = c.in_ok-undone.ensures.undone ∙ (λ j. undone_of (given j) change (storage_of (c.self.view_is j).state)) in
    record {
      done = ap (λ (m : Shown). m.state) (changed_shows c.self.view_is after) ∙ ap (λ (storage : Storage). with_storage storage s) is;
      added = c.push_call-2.ensures ∙ (λ i. Called (record_with c.args.called (given i) (destroyed i)) ∷ c.reserve_call.ensures.same i);
      unchanged = tt;
      err = tt;
      room =
          no_less_store c.self.view_is after (none_forgotten c.change_forms.result (names_put c.arguments_at-arguments.result change) c.self.inside.store.known after.known c.change_forms.ensures.names c.change_forms.ensures.some)
          c.change_forms.ensures.recent;
    }
