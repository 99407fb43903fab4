use Rattle.std.proofs.Common.{refl, sym, ap, ◌∙◌, subst, rules, length, map, All, None}
use Rattle.std.specs.Option.{option_map}
use Rattle.lset_live.specs.Seats.{gather_onto}
use Rattle.lset_work.specs.Programs.{Fit, HasSeenAll, worked}
use Rattle.lset_live.proofs.GatheredRecords.{gathered_explains, gathered_in_time}
use Rattle.lset_live.proofs.ListsHandedOn.{starts_map}
use Rattle.lset_work.proofs.ProgramLaws.{memory_refuses, shut_gate, threads_refuse}
use Rattle.lset_work.proofs.working.work.Goals as goal

pub returns-in_default-clause-refused : goal.returns-in_default-clause-refused
returns-in_default-clause-refused g c =
    let fit : Fit c.args.set c.args.seats.items (length c.args.programs.items) = search rules in
    memory_refuses _ fit

pub returns-in-Err-clause-refused : goal.returns-in-Err-clause-refused
returns-in-Err-clause-refused g c =
    let fit : Fit c.args.set c.args.seats.items (length c.args.programs.items) = search rules in
    threads_refuse _ _ _ c.in-Err.ensures fit

pub returns-in-Err-clause-gate : goal.returns-in-Err-clause-gate
returns-in-Err-clause-gate g c = shut_gate _ _ c.in-Err.ensures

pub returns-clause-outcome : goal.returns-clause-outcome
returns-clause-outcome g c =
    let starts = map (λ s. s.past) c.args.seats.items in
    let replies = map (λ v. v.items) c.in-Ok.gathered.replies.items in
    let programs = starts_map (λ p. p.calls) (λ v. v.items) c.in-Some.room.programs.items c.args.programs.items c.in-Some.ensures.programs
    in
    let told = sym (ap (option_map (λ s. s.past)) c.in-Some-seat.is) ∙ c.in-Ok.ensures.gathers
    ∙ ap (λ ps. gather_onto None (worked starts ps replies)) programs in
    gathered_explains c.args.set.shape c.in-Some-seat.seat.past (worked starts (map (λ p. p.items) c.args.programs.items) replies)
    c.keys_left_in-keys.result.items told c.keys_left_in-keys.ensures.order

pub returns-clause-in_time : goal.returns-clause-in_time
returns-clause-in_time g c =
    let starts = map (λ s. s.past) c.args.seats.items in
    let replies = map (λ v. v.items) c.in-Ok.gathered.replies.items in
    let programs = starts_map (λ p. p.calls) (λ v. v.items) c.in-Some.room.programs.items c.args.programs.items c.in-Some.ensures.programs
    in
    let told = sym (ap (option_map (λ s. s.past)) c.in-Some-seat.is) ∙ c.in-Ok.ensures.gathers
    ∙ ap (λ ps. gather_onto None (worked starts ps replies)) programs in
    record {
      events = c.in-Some-seat.seat.events;
      begins = subst (λ o. All (HasSeenAll o) c.args.seats.items) c.in-Some-seat.is c.in-Ok.ensures.begins;
      order = gathered_in_time _ c.args.set.shape c.in-Some-seat.seat.events c.in-Some-seat.seat.past
          (worked starts (map (λ p. p.items) c.args.programs.items) replies) c.keys_left_in-keys.result.items told
          c.keys_left_in-keys.ensures.in_time;
    }

pub returns-clause-replies : goal.returns-clause-replies
returns-clause-replies g c =
    let programs = starts_map (λ p. p.calls) (λ v. v.items) c.in-Some.room.programs.items c.args.programs.items c.in-Some.ensures.programs
    in
    starts_map (λ v. v.items) (λ l. length l) c.in-Ok.gathered.replies.items _ refl ∙ c.in-Ok.ensures.counted
    ∙ ap (map (λ l. length l)) programs
    ∙ sym (starts_map (λ v. v.items) (λ l. length l) c.args.programs.items _ refl)
