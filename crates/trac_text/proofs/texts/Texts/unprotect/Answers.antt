use Rattle.std.proofs.Common.{refl}
use Rattle.trac_text.proofs.ScanningBack.{back_at, unprotects}
use Rattle.trac_text.proofs.texts.Texts.unprotect.Goals as goal

pub give_protected_back-requires-clause-length : goal.give_protected_back-requires-clause-length
give_protected_back-requires-clause-length g c = (unprotects (record { sound = c.self.invariant; view = c.self.view_is }) c.args.inner c.args.closed c.requires).within

pub give_protected_back-requires-clause-room : goal.give_protected_back-requires-clause-room
give_protected_back-requires-clause-room g c = (unprotects (record { sound = c.self.invariant; view = c.self.view_is }) c.args.inner c.args.closed c.requires).room

pub invariant_of-self : goal.invariant_of-self
invariant_of-self g c = (back_at (unprotects (record { sound = c.self.invariant; view = c.self.view_is }) c.args.inner c.args.closed c.requires).back c.give_protected_back.ensures refl).now.sound

pub returns-clause-back : goal.returns-clause-back
returns-clause-back g c = (back_at (unprotects (record { sound = c.self.invariant; view = c.self.view_is }) c.args.inner c.args.closed c.requires).back c.give_protected_back.ensures refl).state

pub returns-clause-rooms : goal.returns-clause-rooms
returns-clause-rooms g c = (back_at (unprotects (record { sound = c.self.invariant; view = c.self.view_is }) c.args.inner c.args.closed c.requires).back c.give_protected_back.ensures refl).now.view
