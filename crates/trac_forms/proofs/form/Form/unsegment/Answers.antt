use Rattle.trac_forms.proofs.Divided.{room_held}
use Rattle.trac_forms.proofs.form.Form.unsegment.Goals as goal

pub pack-requires : goal.pack-requires
pack-requires g c = room_held c.self.inside.text.items c.self.inside.items c.self.invariant
