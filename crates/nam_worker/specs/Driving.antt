-- The driver that a driver's registers are.
use Rattle.std.specs.Prelude.{List}
use Rattle.si_model.specs.declared.row.Key.{Key}
use Rattle.nam_protocol.specs.declared.session.DriverPoint.{DriverPoint}
use Rattle.nam_protocol.specs.declared.session.DriverPoint.TheVariants.{ToBegin, ToAsk, ToTidy, ToCollect}
use Rattle.nam_protocol.specs.declared.session.DriverState.{DriverState}
use Rattle.nam_worker.specs.declared.driving.Registers.{Registers}
use Rattle.nam_worker.specs.declared.driving.Step.{Step}
use Rattle.nam_worker.specs.declared.driving.Step.TheVariants as step

abbrev pub point_of : Step → List Key → DriverPoint
point_of step.Begin keys = ToBegin
point_of (step.Ask nth) keys = ToAsk nth
point_of (step.Tidy nth again retry) keys = ToTidy keys nth again retry
point_of (step.Collect bucket nth retry) keys = ToCollect bucket keys nth retry

abbrev pub driver_of : Registers → DriverState
driver_of a = record { policy = a.policy; job = a.job; nth = a.nth; place = point_of a.step a.keys }
