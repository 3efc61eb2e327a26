-- A call of `exchange`, which counts a block in place of another: it takes a `&` to the cell of the room and three words, and
-- answers a truth value.
use Rattle.trac_memory.proofs.Steps.{◌≡◌, ℕ, ◌<◌, ◌^◌, Bool, List, [], ◌∷◌, refl, ap, w64, Ura, Val, vbool, vint, vptr, SProp, ent, sep, ex, guard, id⊢, Lft, Share, ftrue, fsep, flft, Memory, Routine, Logic, sem, ‵, raw, ◌⊛◌, some, later, ◌$◌, ◌∵◌, !, qed, move, keep, use1, split, join, pick, show, fjoin, feq_i, flt_i, feq_l, check, await, updating, at_once, done, Fun, usize, bool, hidden_shr, RattleType, nothing, only, triple_of, Contract}
use Rattle.std.specs.contracts.cell.Cell as Held
use Rattle.trac_memory.specs.contracts.room.exchange as asked

abbrev pub Room : RattleType
Room = Held.the_row usize

module _ {M : Type 1} {𝓤 : Ura M} (𝓛 : Logic 𝓤) (at_mem : Memory → SProp 𝓤) (run : Routine → Fun 𝓤) where
  abbrev pub Asks : Contract 𝓤
  Asks = triple_of 𝓛 asked.signature (asked.spec 𝓛 at_mem run)

  module _ (κ : Lft) (q : Share) (at : ℕ × ℕ) (old new size : ℕ) where
    open 𝓛 use {H, A}

    abbrev pub asks_with : Asks.Ghost
    asks_with = (((κ, tt), (q, tt), tt, (record { ref_ptr = at; now = record { value = tt } }, (old, (new, (size, tt)))), (vptr at.0 at.1 ∷ [], (vint w64 old ∷ [], (vint w64 new ∷ [], (vint w64 size ∷ [], tt))))), tt)

    -- a `&` to the room and the token of its lifetime are all that it is given
    pub Asks-starts : old < 2 ^ 64 → new < 2 ^ 64 → size < 2 ^ 64 → ent 𝓤 (sep 𝓤 (sem 𝓛 (hidden_shr Room κ (record { value = tt }) at.0 at.1)) (A.lft κ q)) (Asks.pre asks_with)
    Asks-starts fits_old fits_new fits_size =
        qed 𝓛 (‵ (hidden_shr Room κ (record { value = tt }) at.0 at.1) ∷ ‵ (flft κ q) ∷ []) ∵
        nothing ! $ flt_i ! size (2 ^ 64) fits_size $ feq_i ! (List Val) (vint w64 size ∷ []) (vint w64 size ∷ []) refl $ fjoin ! $ fjoin ! $
        flt_i ! new (2 ^ 64) fits_new $ feq_i ! (List Val) (vint w64 new ∷ []) (vint w64 new ∷ []) refl $ fjoin ! $ fjoin ! $
        flt_i ! old (2 ^ 64) fits_old $ feq_i ! (List Val) (vint w64 old ∷ []) (vint w64 old ∷ []) refl $ fjoin ! $ fjoin ! $
        move ! (1 ∷ []) $ feq_i ! (List Val) (vptr at.0 at.1 ∷ []) (vptr at.0 at.1 ∷ []) refl $ fjoin ! $ fjoin ! $
        nothing ! $ move ! (2 ∷ []) $ join ! $ join ! $ nothing ! $ move ! (1 ∷ []) $ done !

    abbrev pub Said : Val → Bool → SProp 𝓤
    Said v b = guard 𝓤 (v ≡ vbool b) (A.lft κ q)

    -- the answer is some truth value, and the token comes back
    pub Asks-ends : (v : Val) → ent 𝓤 (Asks.post asks_with v) (H.⇛ (ex 𝓤 (Said v)))
    Asks-ends v =
        qed 𝓛 (raw (Asks.post asks_with v) ∷ []) ∵ updating ! $
        use1 𝓛 (later (some (λ (b : Bool). ((‵ (flft κ q) ⊛ ‵ ftrue) ⊛ ‵ (bool.own_val b (v ∷ [])))
        ⊛ some (λ (ws : Unit {0} × (Unit {0} × (Unit {0} × (Unit {0} × Unit {0})))). ‵ (fsep ftrue (fsep ftrue (fsep ftrue (fsep ftrue ftrue)))) ⊛ ‵ ftrue)))) (id⊢ 𝓤 _) $
        await ! tt $ pick ! (λ b. split ! $ split ! $ move ! (1 ∷ []) $ feq_l ! (λ is. split ! $ at_once ! $ show ! (Said v) b $ check ! (ap only is) $ keep ! (0 ∷ []) $ done !))
