use Rattle.std.proofs.Common.{◌≡◌, ◌-◌, length, sym, ap, ◌∙◌, arith, ◌++◌, ◌∷◌, []}
use Rattle.pickle_io.specs.Holes.{AreHoles, IsHole, end_of, left_out, places_from}
use Rattle.pickle_io.proofs.Placed.{out_before_end}
use Rattle.pickle_io.proofs.Added.{more_holes, more_places}
use Rattle.pickle_io.proofs.holes.Holes.push.Goals as goal

pub overflow_sub-place : goal.overflow_sub-place
overflow_sub-place c =
    let are : AreHoles 0 c.args.self.now = rw (sym c.self.view_is) c.self.invariant.0 in
    omega (arith, out_before_end 0 0 c.args.self.now are (omega arith), c.left_out.ensures, c.requires.apart)

pub invariant_of-self-2 : goal.invariant_of-self-2
invariant_of-self-2 c =
    let is : IsHole (end_of 0 c.self.inside.holes.items) c.args.hole = rw c.self.view_is c.requires in
    let out : c.left_out.result ≡ left_out 0 (length c.self.inside.holes.items) c.self.inside.holes.items = rw c.self.view_is c.left_out.ensures in
    let place : c.args.hole.offset - c.left_out.result ≡ c.args.hole.offset - left_out 0 (length c.self.inside.holes.items) c.self.inside.holes.items = ap (λ n. c.args.hole.offset - n) out in
    let holes = c.push_reserved.ensures.items ∙ ap (λ xs. xs ++ c.args.hole ∷ []) c.reserve.ensures.items in
    let places = c.push_reserved-2.ensures.items ∙ ap (λ xs. xs ++ (c.args.hole.offset - c.left_out.result) ∷ []) (c.reserve-2.ensures.items ∙ c.self.invariant.1)
    ∙ ap (λ n. places_from 0 c.self.inside.holes.items ++ n ∷ []) place ∙ sym (more_places 0 c.self.inside.holes.items c.args.hole) in
    (rw holes (more_holes 0 c.self.inside.holes.items c.args.hole c.self.invariant.0 is), places ∙ ap (places_from 0) (sym holes))
