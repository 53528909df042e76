use Rattle.std.proofs.Common.{◌≡◌, ◌+◌, ◌-◌, ◌≤◌, ◌++◌, length, drop, vec_len, map, option_map}
use Rattle.flash_script.specs.CodeScripts.{step_meant, AreWithin}
use Rattle.flash_script.specs.Scripts.{fronts, steps_of, fault_from}
use Rattle.flash_script.proofs.script.read_steps.Given as goal

-- no step so far is bad, they are these, and the bytes that are left have the rest of the faults and steps
abbrev pub invariant-steps : goal.invariant-steps
invariant-steps l = record {
  inside : l.start ≤ length l.bytes;
  few : vec_len l.steps ≤ 1048576;
  fault : fault_from (vec_len l.steps + 2) (drop l.start l.bytes) ≡ fault_from 2 (drop l.steps_offset l.bytes);
  read : option_map (λ more. map (step_meant l.bytes) l.steps.items ++ more) (steps_of (fronts 0 (drop l.start l.bytes))) ≡ steps_of (fronts 0 (drop l.steps_offset l.bytes));
  within : AreWithin (length l.bytes) l.steps.items;
}

abbrev pub decreases-steps : goal.decreases-steps
decreases-steps l = length l.bytes - l.start
