mod Nans
